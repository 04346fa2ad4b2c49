pub mod Computed
pub mod Tests
pub mod Xor
