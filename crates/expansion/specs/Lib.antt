pub mod Expansion
pub mod Writing
