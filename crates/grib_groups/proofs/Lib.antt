pub mod Parts
pub mod Packable
pub mod Marks
pub mod Back
pub mod Same
pub mod Measures
pub mod Joined
