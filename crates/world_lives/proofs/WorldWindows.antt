pub mod Making
pub mod Growing
pub mod Living
pub mod Hearing
pub mod Later
pub mod Orders
pub mod Keeping
pub mod Facing
