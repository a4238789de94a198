mod Turns
mod Runs
mod Turned
mod Columns
pub mod Added
pub mod Rows
mod Placed
pub mod Members
pub mod Closest
pub mod Within
mod Corners
mod Octets
pub mod Kept
pub mod Accepted
pub mod Uncaused
