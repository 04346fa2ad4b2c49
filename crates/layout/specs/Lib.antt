pub mod Control
pub mod Locators
