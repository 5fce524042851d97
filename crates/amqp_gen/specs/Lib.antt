pub mod Command
pub mod Rule
pub mod Run
pub mod Step
pub mod Steps
pub mod Tally
pub mod Walk
