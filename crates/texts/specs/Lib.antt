-- What the functions of this crate put.
pub mod Written
pub mod Listing
