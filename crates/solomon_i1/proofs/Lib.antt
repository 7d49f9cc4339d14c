pub mod Seeking
pub mod Grows
pub mod Laying
pub mod Starting
