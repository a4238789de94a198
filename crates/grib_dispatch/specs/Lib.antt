pub mod Hearing
pub mod Lawful
pub mod HearingLaws
pub mod Reading
pub mod Stated
