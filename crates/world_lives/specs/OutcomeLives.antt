pub mod Hearing
pub mod Granting
pub mod Returning
pub mod Saying
pub mod Coming
