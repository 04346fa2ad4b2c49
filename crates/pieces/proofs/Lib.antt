pub mod Cutting
pub mod Examples
