pub mod Seen
mod PointByPoint
pub mod Fitting
pub mod Bitmaps
pub mod Back
mod Same
mod Times
