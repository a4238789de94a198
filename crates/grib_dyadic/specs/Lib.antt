pub mod Length
pub mod Reference
pub mod Sign
pub mod Value
pub mod Meaning
