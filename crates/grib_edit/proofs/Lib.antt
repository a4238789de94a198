pub mod KeptBy
pub mod Filtered
pub mod Shelved
pub mod Demoted
pub mod Both
