pub mod Join
pub mod Scan
