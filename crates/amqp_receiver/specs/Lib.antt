pub mod Receiver
pub mod Receiving
pub mod Disposing
pub mod AutoAccept
pub mod Regulating
pub mod Delivering
pub mod Parting
pub mod Sharing
