-- The laws of VByte, and the steps of this crate's functions on plain values.
pub mod Sevens
pub mod Laws
pub mod Steps
pub mod Puts
pub mod Takes
