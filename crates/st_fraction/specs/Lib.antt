pub mod Fraction
pub mod Floor
