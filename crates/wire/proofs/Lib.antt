mod Wide
pub mod Run
