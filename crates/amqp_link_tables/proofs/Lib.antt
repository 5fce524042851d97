pub mod Account
pub mod Allocation
pub mod Apart
pub mod Covered
pub mod Lowest
pub mod Numbers
