pub mod Sooner
pub mod Settled
pub mod Once
pub mod Rounds
pub mod Choice
