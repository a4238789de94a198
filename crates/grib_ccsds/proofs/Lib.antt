pub mod Bounded
mod Collected
mod Sizes
pub mod ToCode
pub mod Back
