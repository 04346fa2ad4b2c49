pub mod Chains
pub mod Absorbing
pub mod Interpreting
pub mod Marks
pub mod Putting
pub mod ExpansionLaw
