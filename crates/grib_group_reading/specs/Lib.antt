pub mod Taking
pub mod CodeRuns
pub mod Table
pub mod Going
pub mod Lists
pub mod Laws
pub mod Feeding
