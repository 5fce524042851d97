pub mod Kept
pub mod Listed
pub mod Texts
pub mod Symbols
pub mod Pairs
