pub mod Pairs
pub mod Fronts
pub mod Told
pub mod Folds
pub mod Lists
