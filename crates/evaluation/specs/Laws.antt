pub mod Limits
pub mod Walk
pub mod Verdict
pub mod Finite
