pub mod Making
pub mod Living
pub mod Hearing
pub mod Keeping
pub mod Facing
