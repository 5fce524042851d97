pub mod Sender
pub mod Sending
pub mod Settling
pub mod Parting
