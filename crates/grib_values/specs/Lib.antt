pub mod Shapes
pub mod Arrays
pub mod Coordinates
