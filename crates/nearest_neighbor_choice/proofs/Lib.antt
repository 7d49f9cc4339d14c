pub mod Judging
pub mod Farther
