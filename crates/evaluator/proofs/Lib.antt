pub mod Going
pub mod Resting
