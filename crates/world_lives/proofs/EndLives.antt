pub mod Deeds
pub mod Fronts
pub mod Phases
pub mod Gone
pub mod Senders
pub mod Receivers
pub mod Handles
pub mod Between
