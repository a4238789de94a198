pub mod Hex
pub mod Messages
pub mod Variations
pub mod Changes
pub mod Columns
pub mod Values
pub mod Edition1
pub mod Coded
