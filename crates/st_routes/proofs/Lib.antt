pub mod Values
pub mod Faults
pub mod Instants
pub mod Numbers
pub mod Bounds
pub mod Printed
pub mod Outcomes
pub mod Texts
