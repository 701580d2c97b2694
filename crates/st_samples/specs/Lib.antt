pub mod Generator
pub mod JobLine
pub mod Laws
pub mod SampleLine
pub mod Summary
