pub mod Lists
pub mod Numbers
pub mod Passing
pub mod Readable
pub mod Rebuilt
pub mod ByTemplate
pub mod Unique
pub mod Under
