pub mod Pick
pub mod Cheapest
pub mod Limit
pub mod Stood
pub mod Laws
