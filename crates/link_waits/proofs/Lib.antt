pub mod Steps
pub mod Taking
pub mod Timing
pub mod Hearing
pub mod Calling
pub mod Accepting
pub mod Deeds
