pub mod Choice
pub mod Partial
