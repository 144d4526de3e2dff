-- The facts on groups, said once for every code that has them, the laws of codes 2, 4 and 7, and the steps of this crate's functions on plain values.
pub mod Controls
pub mod Pieces
pub mod OneGroup
pub mod Grouped
pub mod Laws
pub mod Steps
pub mod Puts
pub mod Taking
