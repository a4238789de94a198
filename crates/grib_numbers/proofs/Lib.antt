pub mod Parsed
pub mod Places
mod Fractions
mod Signed
