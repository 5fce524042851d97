pub mod Law
pub mod Again
pub mod Took
pub mod Walked
pub mod Lengths
