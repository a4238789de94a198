pub mod Product
pub mod Spelled
pub use Rattle.grib_base.specs.Faults
pub mod Whole
pub mod Written
pub mod Writable
pub mod Opaque
