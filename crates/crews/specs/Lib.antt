pub mod Deal
pub mod Fair
pub mod Asked
pub mod Ranked
pub mod Laws
