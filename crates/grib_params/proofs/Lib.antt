pub mod Numbers
pub mod Lookups
pub mod Meaning
pub mod Rows
pub mod Reading
pub mod Spelling
pub mod SurfaceRows
pub mod Adding
