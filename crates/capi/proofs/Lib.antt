-- Laws of what a C caller is told.
pub mod Tellings
pub mod Bodies
pub mod Unique
