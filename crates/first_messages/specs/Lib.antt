pub mod Before
pub mod Arriving
pub mod Writing
pub mod Reading
