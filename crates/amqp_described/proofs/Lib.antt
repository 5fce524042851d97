pub mod Numbered
pub mod Front
pub mod BodyWritten
