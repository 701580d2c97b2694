pub mod Contained
pub mod Quotient
pub mod Exact
