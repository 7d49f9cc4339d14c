pub mod Header
pub mod Run
