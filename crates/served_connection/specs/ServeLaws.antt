pub mod History
pub mod Closes
pub mod Runs
