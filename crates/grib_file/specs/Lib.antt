pub mod Filed
pub mod Read
pub mod Stops
pub mod Entries
pub mod Finding
