pub mod All
pub mod Upto
pub mod Patterns
pub mod Range
pub mod Thousandth
pub mod Differ
pub mod Order
pub mod Adding
