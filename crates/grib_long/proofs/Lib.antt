pub mod Digits
pub mod Floors
pub mod Sums
