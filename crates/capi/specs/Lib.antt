-- What a C caller is told, in the meaning's words.
pub mod Told
