pub mod Represented
pub mod OpaqueFields
pub mod Simply
pub mod Read
pub mod Coded
