pub mod Lives
pub mod Logs
pub mod Deeds
pub mod Laws
