pub mod Started
pub mod Goes
pub mod Firsts
