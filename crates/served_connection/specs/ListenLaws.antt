pub mod Ended
pub mod Carried
pub mod Received
pub mod Disposed
pub mod Laws
pub mod Accepts
