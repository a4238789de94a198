pub mod Losses
pub mod Demotions
pub mod Causes
pub mod Tables
