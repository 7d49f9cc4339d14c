pub mod Chosen
pub mod Permutation
pub mod Feasible
pub mod Cases
