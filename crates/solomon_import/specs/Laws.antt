pub mod Ranged
pub mod Taken
pub mod Whole
pub mod Imported
pub mod Ranges
pub mod Accepted
pub mod Unique
pub mod Cases
