pub mod Bits
pub mod Octets
pub mod Plain
pub mod Binary32
pub mod Written
pub mod Encoding
pub mod Listed
