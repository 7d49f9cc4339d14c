pub mod Signed
pub mod Parts
pub mod Judging
pub mod Meeting
pub mod Filling
pub mod Sorted
