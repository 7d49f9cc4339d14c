pub mod Walking
pub mod Onward
pub mod Windowed
pub mod ByRest
pub mod Soonest
