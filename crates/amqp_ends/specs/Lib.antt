pub mod Joined
pub mod Honest
pub mod Standing
pub mod Quiet
pub mod Wants
pub mod Gates
pub mod Passes
pub mod Streams
