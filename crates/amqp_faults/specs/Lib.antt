pub mod Forms
pub mod Faults
pub mod Sees
pub mod Names
