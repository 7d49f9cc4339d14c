pub mod Rounds
pub mod Wholes
