pub mod Hearing
pub mod Carrying
