pub mod Folders
pub mod Under
