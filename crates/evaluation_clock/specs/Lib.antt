pub mod Sums
pub mod Window
pub mod RestAnswer
pub mod Serve
pub mod Clock
pub mod Clocked
pub mod Laws
