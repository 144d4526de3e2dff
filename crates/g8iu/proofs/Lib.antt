-- The laws of G8IU, and the steps of this crate's functions on plain values.
pub mod Tables
pub mod Controls
pub mod Blocks
pub mod Units
pub mod Laws
pub mod Puts
pub mod Writes
pub mod Ends
pub mod Masks
pub mod Numbers
pub mod Eights
pub mod Spares
pub mod Standing
pub mod Takes
