pub mod Sames
pub mod Distinct
pub mod Marked
pub mod Lists
pub mod Fed
pub mod Nests
pub mod Placed
