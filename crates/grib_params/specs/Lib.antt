pub mod Fields
pub mod Table
pub mod Pairs
pub mod SurfaceRows
pub mod Surfaces
pub mod Rows
pub mod Judged
