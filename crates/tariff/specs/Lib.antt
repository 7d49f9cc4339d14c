pub mod Units
pub mod Charge
pub mod Laws
