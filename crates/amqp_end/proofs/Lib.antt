pub mod Goes
pub mod Handed
pub mod Opened
pub mod Passing
pub mod Telling
pub mod Waits
pub mod Rests
