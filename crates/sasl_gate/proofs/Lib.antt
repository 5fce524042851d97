pub mod ClientGates
pub mod GateSteps
pub mod Gates
pub mod Negotiations
pub mod ServerGates
