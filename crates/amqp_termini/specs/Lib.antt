pub mod States
pub mod Outcome
pub mod Transactional
pub mod State
pub mod TerminalState
pub mod OutcomeState
pub mod Source
pub mod Target
pub mod TargetArchetype
pub mod Unsettled
pub use Rattle.amqp_composites.specs as amqp_composites
pub use Rattle.amqp_composites.specs.amqp_fields
