-- Laws of readers.
pub mod Openings
pub mod Calls
pub mod Unique
