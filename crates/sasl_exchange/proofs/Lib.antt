pub mod AnyClients
pub mod AnyServers
pub mod InitClients
pub mod InitServers
pub mod Plains
pub mod ScramClients
pub mod ScramServers
