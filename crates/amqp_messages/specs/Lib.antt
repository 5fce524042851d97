pub mod Kind
pub mod Content
pub mod Message
pub mod Sections
pub mod Reading
pub mod Writing
pub mod FromBody
