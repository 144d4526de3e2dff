-- Laws of the writer.
pub mod Columns
pub mod Sums
pub mod Entries
pub mod Laying
pub mod Holds
pub mod Order
pub mod Turns
pub mod Passes
pub mod Worst
pub mod Unique
