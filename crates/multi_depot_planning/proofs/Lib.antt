pub mod Sharing
pub mod Plans
pub mod Alone
