pub mod Sound
pub mod Names
pub mod Apart
pub mod Leads
