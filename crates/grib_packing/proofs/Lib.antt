pub mod Digits
pub mod Left
pub mod Fields
pub mod Sections
pub mod Packings
pub mod OpaquePackings
pub mod Masks
