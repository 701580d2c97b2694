pub mod First
pub mod Told
pub mod Alike
pub mod Agreed
