pub mod Written
pub mod Cases
pub mod Plan
pub mod Chained
pub mod RoundTrip
pub mod Spare
pub mod Stated
