pub mod Outside
pub mod Memory
pub mod Adapters
pub mod Shelves
pub mod Reading
pub mod Folders
pub mod ShelfInMemory
