pub mod Judged
pub mod Placing
pub mod Sliding
pub mod Trying
pub mod Freely
