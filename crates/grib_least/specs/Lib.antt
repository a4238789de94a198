pub mod Least
pub mod Earlier
