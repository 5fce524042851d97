pub mod Commands
pub mod Sockets
