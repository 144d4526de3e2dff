-- Laws over plain lists and lookups: the first numbers in work, runs, and what a stage makes of a lookup.
pub mod Turns
pub mod Spreads
pub mod Looks
pub mod Plans
pub mod Lookups
pub mod Takings
