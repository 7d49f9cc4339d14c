pub mod Limitable
pub mod Promises
