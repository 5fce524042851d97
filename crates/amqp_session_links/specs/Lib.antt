pub mod Inputs
pub mod State
pub mod Numbers
pub mod Claims
pub mod Incoming
pub use Rattle.amqp_session.specs as amqp_session
