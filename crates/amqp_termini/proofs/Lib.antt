pub mod Deliveries
pub mod Same
