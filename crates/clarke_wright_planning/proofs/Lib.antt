pub mod Merges
pub mod Planned
