pub mod Cells
pub mod Leading
