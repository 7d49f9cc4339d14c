pub mod Ranges
pub mod RowLines
pub mod Refusing
pub mod Made
pub mod RowsPut
pub mod Together
pub mod Answering
