pub mod Door
pub mod Told
