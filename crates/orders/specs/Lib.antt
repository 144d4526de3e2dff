-- What this crate's functions answer, in the meaning's words.
pub mod Orders
