pub mod Count
pub mod Every
pub mod Fold
pub mod Once
pub mod Moved
pub mod Filter
pub mod Ascending
pub mod Laws
