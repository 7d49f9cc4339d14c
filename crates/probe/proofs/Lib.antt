pub mod Right
pub mod Counting
