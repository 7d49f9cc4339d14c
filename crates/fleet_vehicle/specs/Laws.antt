pub mod Indexed
pub mod Cases
