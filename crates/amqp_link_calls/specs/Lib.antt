pub mod Side
pub mod Called
pub mod Replies
pub mod Answering
pub mod Leaving
pub mod Hearing
pub mod Calling
pub mod Regulating
pub mod Disposers
pub use Rattle.amqp_link_words.specs as amqp_link_words
pub use Rattle.amqp_link_words.specs.amqp_receiver
