pub mod Working
pub mod Covering
pub mod Settling
pub mod Tags
pub mod Counted
pub mod Sending
pub mod Turning
