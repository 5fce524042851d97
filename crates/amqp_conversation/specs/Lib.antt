pub mod Said
pub mod Reading
pub mod Shows
pub mod Why
