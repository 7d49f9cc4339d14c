pub mod Depots
pub mod Accepted
pub mod Finite
pub mod Stops
pub mod Told
pub mod Form
