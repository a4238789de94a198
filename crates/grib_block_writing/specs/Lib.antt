pub mod Splits
pub mod Steps
