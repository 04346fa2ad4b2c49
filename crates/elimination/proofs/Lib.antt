pub mod Steps
pub mod Solving
