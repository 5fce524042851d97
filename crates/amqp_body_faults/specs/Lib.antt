pub mod Seen
pub mod Bodies
pub mod Sasl
