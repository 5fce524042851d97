pub mod Kinds
pub mod Sessions
pub mod Both
pub mod Links
pub mod Senders
pub mod Receivers
pub mod Ends
pub mod Whole
