pub mod Defaults
pub mod Condition
pub mod Kinds
pub mod Whole
