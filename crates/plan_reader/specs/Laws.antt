pub mod Links
pub mod Tally
pub mod Right
