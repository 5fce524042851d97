pub mod Script
pub mod Asked
pub mod Show
pub mod Program
