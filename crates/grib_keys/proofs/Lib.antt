pub mod Chosen
pub mod Every
