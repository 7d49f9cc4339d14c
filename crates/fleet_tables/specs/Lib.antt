pub mod Promises
pub mod Laws
