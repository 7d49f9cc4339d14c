pub mod Slots
pub mod Lent
pub mod Laws
