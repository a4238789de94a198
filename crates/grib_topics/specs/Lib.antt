pub mod Topics
pub mod Shown
pub mod Elsewhere
pub mod Nearest
