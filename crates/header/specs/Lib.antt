pub mod Header
pub mod Horner
pub mod Packed
