pub mod Parts
pub mod Lines
pub mod Words
pub mod Numbers
pub mod Places
