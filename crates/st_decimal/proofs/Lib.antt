pub mod Accepted
pub mod Accepts
pub mod Answered
pub mod FixedDecimals
mod FixedExamples
pub mod FixedReads
mod NumberExamples
pub mod PieceLaws
pub mod Scaled
pub mod ScalingLaws
pub mod Sound
pub mod Stops
pub mod Stripped
pub mod ValueCode
pub mod ZeroDigits
