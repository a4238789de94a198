mod Blocks
pub mod Places
pub mod Fronts
pub mod Spread
pub mod Items
pub mod Keeping
pub mod Shown
pub mod Whole
pub mod Counted
pub mod Within
