pub mod Greedy
pub mod Nearest
pub mod Heuristic
pub mod Laws
