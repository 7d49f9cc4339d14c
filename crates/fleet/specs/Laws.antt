pub mod Bounds
pub mod Steps
pub mod RoundCount
pub mod Ends
pub mod Stood
pub mod Placed
pub mod Aside
pub mod Cases
