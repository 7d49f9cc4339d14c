pub mod Choice
pub mod Figures
pub mod Laws
