pub mod Units
pub mod Rounds
pub mod Nearness
pub mod Settling
pub mod Fractions
pub mod Numbers
pub mod Parts
pub mod Words
