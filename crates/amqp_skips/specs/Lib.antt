pub mod Spelling
pub mod Skipped
