pub mod Lanes
pub mod Unpacking
pub mod Accepted
pub mod Masked
pub mod Plain
