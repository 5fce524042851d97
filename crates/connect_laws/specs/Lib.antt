pub mod Asking
pub mod Bringing
pub mod Ruling
pub mod Standing
