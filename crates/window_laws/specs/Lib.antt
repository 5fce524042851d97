pub mod Starting
pub mod Announcing
pub mod Counting
pub mod Granting
pub mod Keeping
pub mod Example
