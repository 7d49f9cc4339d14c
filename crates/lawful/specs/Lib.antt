pub mod Whole
pub mod Lawful
pub mod ClockN
pub mod Figures
pub mod Laws
