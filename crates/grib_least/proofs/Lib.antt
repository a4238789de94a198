pub mod Smallest
pub mod Kept
pub mod Again
pub mod Tried
mod Counted
