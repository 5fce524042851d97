pub mod Ranges
pub mod Elements
pub mod Spelled
pub mod Values
pub mod Bodies
