pub mod Units
pub mod Charge
