-- What the demands speak of, and the demands.
pub mod Own
pub mod Refusals
pub mod Promises
pub mod Demands
