-- What a reader is to its callers.
pub mod Steps
