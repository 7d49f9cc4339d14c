pub mod Choosing
pub mod Refitting
pub mod Dropping
pub mod DroppingRounds
pub mod Windows
pub mod Ordered
