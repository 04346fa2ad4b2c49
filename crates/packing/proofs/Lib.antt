pub mod Limit
pub mod Fitting
pub mod Packs
pub mod Bounds
pub mod Examples
