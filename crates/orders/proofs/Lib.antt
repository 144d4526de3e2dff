-- Laws of orders taken apart.
pub mod Taken
pub mod Unique
