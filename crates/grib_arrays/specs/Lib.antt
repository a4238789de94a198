pub mod Header
pub mod Values
pub mod Scale
pub mod Numbers
