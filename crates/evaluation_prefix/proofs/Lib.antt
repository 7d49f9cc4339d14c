pub mod WalkingOn
