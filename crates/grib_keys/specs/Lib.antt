pub mod Keys
pub mod Keys1
pub mod Words
pub mod Wanted
