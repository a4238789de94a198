pub mod Places
pub mod Passing
pub mod Firsts
