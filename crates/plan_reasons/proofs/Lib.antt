pub mod Giving
pub mod Copying
pub mod Judging
