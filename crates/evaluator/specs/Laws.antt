pub mod Agree
pub mod Home
pub mod Finite
