pub mod Header
pub mod Clocks
pub mod Arrivals
pub mod Wire
pub mod Causes
pub mod Stream
pub mod Exchange
pub mod Kinds
pub mod OneItem
pub use Rattle.amqp_frames.specs as amqp_frames
pub use Rattle.amqp_frames.specs.amqp_performatives
