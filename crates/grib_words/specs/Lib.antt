pub mod Values
pub mod Choices
pub mod Columns
pub mod Reading
pub mod Words
