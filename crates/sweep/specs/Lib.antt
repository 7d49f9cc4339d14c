pub mod Angle
pub mod Signs
pub mod Sweep
pub mod Met
pub mod Laws
