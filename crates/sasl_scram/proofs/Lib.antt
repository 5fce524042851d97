pub mod Attributes
pub mod Encoded
pub mod Escapes
pub mod ExtensionLists
pub mod Readers
pub mod Listener
