pub mod Promises
pub mod Rounds
pub mod Figures
pub mod Drivers
