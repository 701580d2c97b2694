pub mod LawSteps
pub mod TickSteps
pub mod FaultSteps
pub mod Route
pub mod Source
pub mod Outcome
pub mod Laws
