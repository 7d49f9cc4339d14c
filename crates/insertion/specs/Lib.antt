pub mod Lawful
pub mod Choice
pub mod Place
pub mod Trial
pub mod Laws
