pub mod Fields
pub mod Words
pub mod Command
pub mod Seen
pub mod Lawful
