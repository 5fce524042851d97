pub mod Channels
pub mod Lives
pub mod Logs
pub mod Deeds
pub mod Laws
pub mod Sound
pub mod Fronts
