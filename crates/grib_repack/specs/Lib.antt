pub mod Repacked
pub mod Faults
pub mod Lengths
