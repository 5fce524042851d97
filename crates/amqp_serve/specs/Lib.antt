pub mod Acts
pub mod Answers
pub mod Endings
pub mod Ran
pub mod Deeds
