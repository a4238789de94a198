pub mod Parts
mod Counts
pub mod Asked
pub mod Printed
mod Single
