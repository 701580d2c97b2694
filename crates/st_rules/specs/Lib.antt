pub mod Rules
pub mod Agree
