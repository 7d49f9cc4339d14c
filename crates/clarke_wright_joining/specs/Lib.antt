pub mod Way
pub mod Ways
