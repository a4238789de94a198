pub mod Broken
pub mod Ended
pub mod Messages
pub mod Unread
pub mod Unfiled
pub mod Made
