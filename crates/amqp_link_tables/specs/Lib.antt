pub mod Handles
pub mod Kept
pub mod State
pub mod Calls
pub mod Deliveries
pub mod Laws
