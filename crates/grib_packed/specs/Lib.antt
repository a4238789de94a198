pub mod Chosen
pub mod Section
pub mod Written
pub mod Worked
