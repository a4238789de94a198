pub mod Digits
pub mod Floor
pub mod Begun
