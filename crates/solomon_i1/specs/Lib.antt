pub mod Insertion
pub mod Later
pub mod Tabled
pub mod Laws
