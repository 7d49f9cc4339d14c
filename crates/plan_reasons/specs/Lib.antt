pub mod Reasons
pub mod Copying
pub mod Laws
