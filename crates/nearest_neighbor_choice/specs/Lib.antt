pub mod StopChoice
pub mod Choice
pub mod Offers
pub mod Partial
pub mod Heuristic
pub mod Laws
