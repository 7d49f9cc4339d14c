pub mod Answering
pub mod Limiting
