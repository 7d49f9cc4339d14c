pub mod Reading
pub mod Chains
pub mod Laws
