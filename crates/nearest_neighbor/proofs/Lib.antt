pub mod Keeping
pub mod Leaving
pub mod Growing
pub mod Laying
