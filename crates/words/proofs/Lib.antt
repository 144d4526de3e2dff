-- Laws of numbers in bytes, which codes 2, 3, 4, 7 and 8 share, and of their bits.
pub mod Bytes
pub mod DataBytes
pub mod Straight
pub mod Words
pub mod Puts
pub mod LowBits
pub mod Packed
