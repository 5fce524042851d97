pub mod Admission
pub mod Permission
pub mod Authentication
pub mod Opening
pub mod Gated
