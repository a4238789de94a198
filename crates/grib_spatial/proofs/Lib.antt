pub mod Undone
pub mod Told
pub mod Whole
pub mod Least
pub mod Again
pub mod Telling
