pub mod Instance
pub mod Import
pub mod Reading
pub mod Writing
pub mod Laws
