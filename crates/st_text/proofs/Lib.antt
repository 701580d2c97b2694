mod Examples
pub mod LineLaws
pub mod Logic
pub mod Numbers
pub mod Padded
pub mod Runs
pub mod Spelled
pub mod Splits
pub mod Trimmed
