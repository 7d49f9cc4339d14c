pub mod Count
pub mod Every
pub mod Fold
pub mod Once
pub mod Moved
pub mod Permutation
pub mod Filter
pub mod Ascending
