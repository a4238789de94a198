pub mod WordBits
pub mod RunBits
pub mod Made
pub mod Writing
pub mod Runs
