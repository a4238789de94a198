pub mod Causes
pub mod Commands
pub mod Lines
pub mod Texts
pub mod Dumping
pub mod Valuing
