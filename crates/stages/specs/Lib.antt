-- What this crate's functions leave in work, in the meaning's words, and the room that plans ask for.
pub mod Bodies
pub mod Firsts
pub mod Header
pub mod Room
pub mod Runs
pub mod Seeks
