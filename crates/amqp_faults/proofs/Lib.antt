pub mod Read
pub mod Steps
pub mod Layouts
pub mod Behind
pub mod Made
