pub mod Alone
pub mod Telling
pub mod Trying
pub mod Fleets
