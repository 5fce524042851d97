pub mod Hidden
pub mod Bodies
pub mod Messages
pub mod Payload
