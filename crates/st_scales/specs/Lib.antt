pub mod Tdb
pub mod Route
pub mod Constants
pub mod ConstantsMachine
pub mod Laws
