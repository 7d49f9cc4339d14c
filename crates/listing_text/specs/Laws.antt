pub mod Cases
pub mod Listable
pub mod Listing
pub mod Length
