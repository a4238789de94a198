pub mod Undoing
pub mod Trail
