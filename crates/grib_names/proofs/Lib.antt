pub mod Names
pub mod Records
pub mod Taking
pub mod Meaning
