pub mod Anomaly
pub mod Narrow
pub mod Laws
