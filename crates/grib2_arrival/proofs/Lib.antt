pub mod Beginnings
pub mod Looking
pub mod Onward
pub mod Pending
pub mod Reasons
pub mod States
pub mod Verdicts
