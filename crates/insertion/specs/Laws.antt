pub mod Lawful
pub mod Judging
