pub mod Agreeing
pub mod Passing
pub mod Carrying
pub mod Cutting
pub mod Reading
pub mod First
pub mod Unsent
pub mod Starting
