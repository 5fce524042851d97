pub mod Numbers
pub mod Termini
pub mod Faults
pub mod Rules
pub mod Link
pub mod Parting
pub mod Accept
pub use Rattle.amqp_frames.specs as amqp_frames
pub use Rattle.amqp_frames.specs.amqp_performatives
