pub mod Chains
pub mod RowLaws
pub mod Tdbs
pub mod Ways
