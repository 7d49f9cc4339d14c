pub mod Distances
pub mod Filled
pub mod Laws
