pub mod Putting
pub mod Digits
pub mod Following
pub mod Counting
