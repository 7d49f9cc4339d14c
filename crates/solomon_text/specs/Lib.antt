pub mod Lines
pub mod Numbers
pub mod Kept
pub mod Laws
