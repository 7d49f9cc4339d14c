pub mod Signed
pub mod Stands
pub mod Layout
pub mod Records
pub mod Read
pub mod Sheet
