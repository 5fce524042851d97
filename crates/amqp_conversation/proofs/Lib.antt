pub mod Bad
pub mod Going
pub mod Gives
pub mod Framed
