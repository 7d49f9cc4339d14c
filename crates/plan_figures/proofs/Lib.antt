pub mod Walking
pub mod Entering
