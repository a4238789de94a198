pub mod Coordinates
pub mod Field
pub mod Keys
pub mod Records
