pub mod Asked
pub mod Puts
pub mod Places
pub mod Changes
pub mod Set
pub mod Accepted
