pub mod Copying
pub mod Relabelling
pub mod Taking
pub mod Slotting
pub mod StartingRoutes
pub mod Rounds
