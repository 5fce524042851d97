pub mod Clients
pub mod Passing
