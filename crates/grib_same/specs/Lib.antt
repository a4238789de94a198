pub mod Sameness
pub mod Scales
pub mod Levels
pub mod Wholes
