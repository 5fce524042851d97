pub mod Standing
pub mod Keeping
pub mod Passing
pub mod Laws
pub mod Coming
pub mod Worlds
