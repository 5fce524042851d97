pub mod Replaying
pub mod Standing
pub mod Weights
pub mod Once
