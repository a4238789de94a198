pub mod Span
pub mod Words
pub mod FieldCodes
pub mod KeptWords
