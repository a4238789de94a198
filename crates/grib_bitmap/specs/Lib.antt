pub mod Words
pub mod Mask
pub use Rattle.grib_base.specs.Faults
