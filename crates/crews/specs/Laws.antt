pub mod Crews
pub mod Totals
pub mod Least
pub mod Left
pub mod Even
pub mod Bound
pub mod OwnOrder
pub mod Cases
