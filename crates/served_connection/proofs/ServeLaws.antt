pub mod History
pub mod Deeds
pub mod Frames
pub mod Replies
pub mod Calls
pub mod Closes
pub mod Left
pub mod Runs
