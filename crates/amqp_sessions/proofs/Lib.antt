pub mod Freed
pub mod Gone
pub mod Meant
pub mod Tables
pub mod Waits
