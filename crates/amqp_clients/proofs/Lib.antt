pub mod Addresses
pub mod Deliveries
pub mod Owned
