pub mod History
pub mod Receipts
pub mod Counts
pub mod Weights
pub mod Once
