pub mod ClosestRoot
pub mod Laws
