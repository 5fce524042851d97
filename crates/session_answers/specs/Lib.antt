pub mod Past
pub mod Causes
pub mod Standing
pub mod Passing
pub mod Refusals
pub mod Laws
