pub mod Told
pub mod Grammars
