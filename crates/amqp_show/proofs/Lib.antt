pub mod Cuts
pub mod Speech
pub mod Tales
pub mod Steps
pub mod Joined
