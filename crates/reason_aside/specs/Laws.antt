pub mod Fleet
pub mod Aside
pub mod Lone
pub mod Seven
pub mod Plain
pub mod Unlawful
