pub mod Deliveries
pub mod Work
pub mod Counts
pub mod Ending
pub mod Tickets
