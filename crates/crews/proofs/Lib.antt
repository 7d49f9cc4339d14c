pub mod Least
pub mod Ranking
pub mod Dealing
