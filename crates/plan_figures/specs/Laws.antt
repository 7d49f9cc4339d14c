pub mod Rounds
pub mod Walked
