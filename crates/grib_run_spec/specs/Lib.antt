pub mod Tasks
pub mod Seen
pub mod Stated
pub mod Serving
