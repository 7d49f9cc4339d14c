pub mod Filling
pub mod Floats
pub mod Signed
