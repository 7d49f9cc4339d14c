pub mod UpdatingMarks
pub mod Settling
