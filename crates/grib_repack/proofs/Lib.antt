pub mod Fields
mod Whole
pub mod Sections
mod InBlocks
pub mod Ranges
pub mod Octets
pub mod Columns
pub mod Packing
pub mod Kept
pub mod Back
pub mod Simply
pub mod AsTheyCome
