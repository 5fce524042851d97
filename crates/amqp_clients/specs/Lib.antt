pub mod Bodies
pub mod Clients
pub mod Delivered
pub mod Peers
pub mod Report
