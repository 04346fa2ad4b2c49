pub mod Spans
pub mod Transmissions
pub mod Withheld
