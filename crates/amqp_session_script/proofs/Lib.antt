pub mod Lines
pub mod Plains
