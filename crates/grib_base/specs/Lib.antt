pub mod Reason
pub mod Rules
pub mod Faults
pub use Rattle.grib_bits.specs.Octets
