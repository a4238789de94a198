mod Skipped
pub mod Fits
mod InPlace
