pub mod Apart
pub mod Facts
pub mod Listing
pub mod Written
