pub mod Described
pub mod Closed
