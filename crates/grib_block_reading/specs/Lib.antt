pub mod Fronts
pub mod ItemRead
pub mod Kept
pub mod Taking
