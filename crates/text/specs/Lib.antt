pub mod LineBytes
pub mod Text
