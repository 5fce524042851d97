pub mod Answers
pub mod Messages
pub mod Credit
pub mod Outcomes
pub mod Windows
pub mod Explained
