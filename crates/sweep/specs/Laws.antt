pub mod Signs
pub mod Order
pub mod Bounds
pub mod Permutation
pub mod Feasible
pub mod Cases
pub mod Choice
