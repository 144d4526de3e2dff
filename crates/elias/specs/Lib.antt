-- What the functions of this crate say of bits.
pub mod Padded
pub mod Ahead
pub mod Says
pub mod Carry
