pub mod All
pub mod Range
pub mod Laws
