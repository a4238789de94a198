pub mod Written
pub mod Constant
