pub mod LineEnds
pub mod WordWalk
