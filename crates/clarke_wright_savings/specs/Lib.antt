pub mod Savings
pub mod Routes
pub mod Listed
pub mod Lent
pub mod Laws
