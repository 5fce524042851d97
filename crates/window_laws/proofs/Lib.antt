pub mod Walks
pub mod Orders
pub mod Announces
pub mod Counts
pub mod Keeps
pub mod Together
pub mod Examples
pub mod Grants
