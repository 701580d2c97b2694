pub mod Form
pub mod Sound
pub mod Verdict
pub mod Laws
pub mod Steps
