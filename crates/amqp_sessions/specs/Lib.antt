pub mod Parts
pub mod Endpoint
pub mod State
pub mod Calls
pub mod Frames
pub mod Stops
pub mod Laws
pub use Rattle.amqp_calls.specs as amqp_calls
pub use Rattle.amqp_calls.specs.amqp_link_words
