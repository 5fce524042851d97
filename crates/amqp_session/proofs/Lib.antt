pub mod Order
pub mod Releases
pub mod Tidy
