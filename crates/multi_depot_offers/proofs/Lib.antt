pub mod Manning
pub mod Asking
pub mod Firsts
pub mod Moving
