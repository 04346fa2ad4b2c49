pub mod Snapshot
pub mod Steps
