pub mod Visiting
pub mod Rounding
pub mod Chaining
pub mod Counting
pub mod Planning
