pub mod TableReading
pub mod TablesTogether
