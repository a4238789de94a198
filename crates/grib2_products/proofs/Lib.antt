pub mod ByTemplate
pub mod Numbers
pub mod Ranges
pub mod Readable
pub mod Rebuilt
pub mod Unique
pub mod Under
