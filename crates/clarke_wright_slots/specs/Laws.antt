pub mod HowMany
pub mod Slots
