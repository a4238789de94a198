pub mod Pending
pub mod Finite
pub mod Causes
pub mod Lists
pub mod Walk
pub mod Masked
