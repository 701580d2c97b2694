pub mod Answer
pub mod Asked
pub mod AskedSteps
pub mod FaultSteps
pub mod Laws
pub mod Ready
pub mod Returns
pub mod Sides
