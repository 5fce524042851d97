pub mod SaslCode
pub mod Sasl
pub mod SaslBody
pub mod SaslBytes
pub use Rattle.amqp_described.specs as amqp_described
pub use Rattle.amqp_described.specs.amqp_value
