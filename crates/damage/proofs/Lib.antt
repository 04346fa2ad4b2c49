pub mod Altered
pub mod Listing
