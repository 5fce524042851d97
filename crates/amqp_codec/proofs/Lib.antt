pub mod Looked
pub mod Conditions
pub mod Wholes
pub mod Read
