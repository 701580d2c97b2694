pub mod Series
pub mod Laws
pub mod Small
pub mod Enclosed
