pub mod Template
pub mod Instant
pub mod Verdict
pub mod Head
pub mod Frame
pub mod Identification
pub mod Refused
pub use Rattle.grib_bits.specs.Encoding
