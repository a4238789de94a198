pub mod Values
pub mod Single
pub mod Changed
pub mod Bounds
pub use Rattle.grib_keys.specs.Keys
