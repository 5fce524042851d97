pub mod Count
pub mod Ending
pub mod Served
