pub mod Code
pub mod Grammar
pub mod Reading
pub mod Canonical
pub mod Pieces
pub mod Span
pub mod ReadErrors
pub mod Writing
pub use Rattle.amqp_data.specs as amqp_data
