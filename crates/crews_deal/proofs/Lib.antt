pub mod Rounding
pub mod Dealing
