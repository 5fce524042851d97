pub mod States
pub mod Orders
pub mod Copies
pub mod Ranges
pub mod Search
pub mod Book
pub mod Step
