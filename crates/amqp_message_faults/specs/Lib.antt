pub mod Order
pub mod Sees
pub mod Messages
