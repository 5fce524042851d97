pub mod Body
pub mod Session
pub use Rattle.amqp_performatives.specs as amqp_performatives
pub use Rattle.amqp_performatives.specs.amqp_termini
