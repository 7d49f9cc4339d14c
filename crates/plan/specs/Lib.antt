pub mod Plan
pub mod Writable
pub mod Read
pub mod Stated
pub mod Laws
