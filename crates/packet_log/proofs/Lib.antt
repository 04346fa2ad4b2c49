pub mod Blocks
pub mod Data
pub mod Examples
pub mod Filling
pub mod Packets
pub mod Same
pub mod Words
