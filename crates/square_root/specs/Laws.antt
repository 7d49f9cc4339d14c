pub mod Squares
pub mod Closest
pub mod Nearest
