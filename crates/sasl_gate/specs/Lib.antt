pub mod ClientGate
pub mod Frames
pub mod Gates
pub mod Negotiation
pub mod ServerGate
pub mod Steps
pub use Rattle.sasl_exchange.specs.amqp_sasl_bodies
pub use Rattle.sasl_exchange.specs as sasl_exchange
