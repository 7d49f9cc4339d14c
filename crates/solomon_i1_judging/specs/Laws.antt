pub mod Chosen
pub mod Choice
