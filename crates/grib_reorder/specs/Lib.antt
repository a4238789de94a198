pub mod Rescanned
pub mod Faults
pub mod Fields
pub mod Lengths
pub mod Plain
