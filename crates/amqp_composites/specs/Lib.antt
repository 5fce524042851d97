pub mod Kind
pub mod Described
pub mod Modes
pub mod Error
pub use Rattle.amqp_fields.specs.amqp_data
pub use Rattle.amqp_fields.specs as amqp_fields
