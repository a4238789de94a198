pub mod Sums
pub mod Stepped
pub mod Told
