pub mod Filling
pub mod Closing
pub mod Sending
pub mod Weighing
pub mod TakingOut
pub mod PuttingIn
pub mod Ordering
