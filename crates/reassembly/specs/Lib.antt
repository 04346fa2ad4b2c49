pub mod Count
pub mod Holder
pub mod Reassembly
pub mod Rights
pub mod Run
pub mod Tally
