pub mod Reason
pub mod Told
pub mod Asked
pub mod Laws
