pub mod Ranked
pub mod Joined
pub mod Permutation
pub mod Feasible
pub mod Cases
pub mod Choice
