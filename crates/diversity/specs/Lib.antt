pub mod Diversity
pub mod Steps
