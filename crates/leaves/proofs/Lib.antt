-- Laws that several crates cite.
pub mod Joined
pub mod Parts
pub mod Putting
