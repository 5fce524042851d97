pub mod Symbols
pub mod Trimmed
pub mod Keys
