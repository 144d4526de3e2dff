-- The laws of code 8: its bits and parts written and read, and what its functions know.
pub mod Lengths
pub mod Sums
pub mod Flags
pub mod Holding
pub mod Written
pub mod Writing
pub mod Lookups
pub mod Followed
pub mod Laws
pub mod Fits
pub mod Zeros
pub mod Nexts
pub mod Ones
pub mod Plains
pub mod Dones
pub mod Looks
