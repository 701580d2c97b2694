pub mod Ascii
pub mod Bytes
pub mod Laws
pub mod Lines
pub mod Scan
