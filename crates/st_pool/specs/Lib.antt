pub mod IndexMachine
pub mod Limits
pub mod Loaded
pub mod Places
pub mod PoolMachine
pub mod Variable
