pub mod Indexing
pub mod Following
pub mod Marking
pub mod Splitting
pub mod Rounding
pub mod Outcome
