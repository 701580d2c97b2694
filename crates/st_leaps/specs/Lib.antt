pub mod Table
pub mod Label
pub mod OfTable
pub mod Numbers
pub mod Faults
pub mod NumbersMachine
pub mod LabelMachine
pub mod Laws
