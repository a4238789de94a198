pub mod Differences
pub mod Levels
pub mod Wholes
pub mod Lines
pub mod Decisions
