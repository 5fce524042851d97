pub mod Carrying
pub mod Cutting
pub mod Starting
pub mod Unsent
