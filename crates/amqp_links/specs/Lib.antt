pub mod Parts
pub mod State
pub mod Taking
pub mod Timing
pub mod Leaving
pub mod May
pub mod Attaching
pub mod Settling
pub mod Numbering
pub mod Hearing
pub mod Accepting
pub mod Disposers
pub mod Regulating
pub mod Calling
pub mod Stops
pub mod Inputs
pub mod Forgetting
pub use Rattle.amqp_link_calls.specs as amqp_link_calls
