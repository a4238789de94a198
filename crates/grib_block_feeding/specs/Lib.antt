pub mod Pending
pub mod Half
pub mod Feeding
pub mod Blocks
pub mod Representation
