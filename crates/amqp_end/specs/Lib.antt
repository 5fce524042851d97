pub mod Answers
pub mod Asks
pub mod Deeds
pub mod Goes
pub mod Handed
pub mod Moves
pub mod Named
pub mod Taken
pub mod Rests
pub use Rattle.amqp_sessions.specs.amqp_calls
pub use Rattle.amqp_links.specs as amqp_links
pub use Rattle.amqp_sessions.specs as amqp_sessions
