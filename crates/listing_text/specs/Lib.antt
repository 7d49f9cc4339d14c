pub mod Text
pub mod Listing
pub mod Put
pub mod Listable
pub mod Laws
