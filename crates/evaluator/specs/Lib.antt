pub mod Record
pub mod Driven
pub mod Laws
