pub mod Examples
pub mod Byte
pub mod Below
pub mod Ring
pub mod Folding
