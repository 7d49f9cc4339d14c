pub mod ByDepot
pub mod Promises
pub mod Laws
