pub mod Outside
pub mod Passing
pub mod Noted
pub mod Answers
pub mod Readable
