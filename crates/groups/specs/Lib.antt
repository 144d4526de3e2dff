-- What this crate's helper functions answer, in the meaning's words.
pub mod Layouts
pub mod Parts
pub mod Whole
