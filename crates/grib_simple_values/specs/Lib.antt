pub mod Kept
pub mod Written
pub mod Marked
