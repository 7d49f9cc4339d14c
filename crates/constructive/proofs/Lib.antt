pub mod Gathering
pub mod InTables
pub mod Loading
pub mod Bringing
pub mod Sending
pub mod Marking
