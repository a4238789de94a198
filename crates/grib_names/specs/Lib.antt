pub mod Rows
pub mod Table
pub mod Taken
pub mod Judged
