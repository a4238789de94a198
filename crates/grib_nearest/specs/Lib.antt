pub mod Nearest
pub mod Formats
pub mod Leading
pub mod Values
pub mod Fractions
pub mod Numbers
