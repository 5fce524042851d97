pub mod Unframed
