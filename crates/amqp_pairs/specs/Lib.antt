pub mod Joined
pub mod InitEnds
pub mod Errors
pub mod Streams
pub mod Failures
pub mod Mechanisms
