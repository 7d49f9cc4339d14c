pub mod Tried
pub mod Reason
pub mod Walked
