pub mod Ways
pub mod Joining
