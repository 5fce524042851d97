pub mod Open
pub mod Begin
pub mod Attach
pub mod Flow
pub mod Transfer
pub mod Disposition
pub mod Detach
pub mod End
pub mod Close
pub mod Performative
pub use Rattle.amqp_termini.specs as amqp_termini
