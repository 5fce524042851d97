pub mod SessionText
pub mod LinkText
