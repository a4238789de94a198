pub mod Walked
pub mod Standing
pub mod Fed
pub mod Heard
pub use Rattle.grib_base.specs.Faults
