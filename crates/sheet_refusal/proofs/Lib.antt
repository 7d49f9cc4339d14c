pub mod Fields
pub mod Signs
pub mod Tables
