pub mod Bytes
pub mod Overwrite
