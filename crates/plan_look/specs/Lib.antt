-- What a stage makes of the lookup below it.
pub mod Turns
