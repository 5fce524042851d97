pub mod Algorithm
pub mod Hmac
pub mod Lengths
pub mod Params
pub mod Password
pub mod Pbkdf2
