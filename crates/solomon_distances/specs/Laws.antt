pub mod Between
pub mod Differences
