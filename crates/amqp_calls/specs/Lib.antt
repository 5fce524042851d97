pub mod Plain
pub use Rattle.amqp_link_words.specs as amqp_link_words
