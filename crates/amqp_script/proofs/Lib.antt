pub mod Pieces
pub mod Numbers
pub mod Escapes
pub mod Symbols
pub mod Lines
pub mod Sized
