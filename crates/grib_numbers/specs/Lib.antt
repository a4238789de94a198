pub mod Numbers
pub mod Degrees
