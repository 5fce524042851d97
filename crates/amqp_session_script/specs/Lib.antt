pub mod Keys
pub mod Line
pub mod Script
pub mod TraceText
