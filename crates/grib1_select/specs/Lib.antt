pub mod Values
pub mod Changed
