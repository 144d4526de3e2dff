-- What this crate's functions ask and answer, in the meaning's words.
pub mod Orders
