pub mod Symmetry
pub mod Pushing
pub mod Gathering
pub mod Ranking
