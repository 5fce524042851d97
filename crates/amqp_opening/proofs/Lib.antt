pub mod Made
pub mod Exchanges
pub mod Openings
