pub mod Error
pub mod Fields
pub mod Left
pub mod Writer
pub mod Again
pub mod Maps
pub use Rattle.amqp_data.specs as amqp_data
