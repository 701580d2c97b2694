pub mod Fixed
pub mod Laws
pub mod Limits
pub mod Number
pub mod NumberMachine
pub mod Scaling
pub mod ScalingMachine
pub mod Value
