pub mod Points
pub mod Maker
pub mod Summary
pub mod Sections
pub mod Made
