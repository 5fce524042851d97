pub use Rattle.amqp_receiver.specs as amqp_receiver
pub use Rattle.amqp_sender.specs as amqp_sender
