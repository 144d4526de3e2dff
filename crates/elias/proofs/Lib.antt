-- The laws of gamma and delta, and the steps of this crate's functions on plain values.
-- bits of numbers and of bytes
pub mod Numbers
pub mod Length
pub mod Padding
pub mod Zeros
pub mod Pack
-- codewords and the laws
pub mod Codewords
pub mod Gamma
pub mod Delta
pub mod Laws
-- reading
pub mod Windows
pub mod Seen
pub mod Forms
pub mod Taking
-- writing
pub mod Pushing
pub mod Writing
pub mod Lists
