pub mod Settled
pub mod Finite
