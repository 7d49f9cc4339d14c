pub mod Priced
pub mod Judged
pub mod Rounds
pub mod Pending
pub mod Unwon
