pub mod Promised
pub mod Insertion
pub mod LimitPromised
pub mod Reasoned
pub mod Opened
pub mod Billed
pub mod Dealt
