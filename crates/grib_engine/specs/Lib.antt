pub mod Beside
pub mod Untabled
