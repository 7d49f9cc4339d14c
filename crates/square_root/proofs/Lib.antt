pub mod Newton
pub mod Digits
pub mod Quotient
pub mod Rounding
