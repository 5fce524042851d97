pub mod Error
pub mod Reading
pub mod Writing
pub mod Bodies
pub use Rattle.amqp_composites.specs as amqp_composites
pub use Rattle.amqp_value.specs.amqp_data
pub use Rattle.amqp_composites.specs.amqp_fields
pub use Rattle.amqp_value.specs as amqp_value
