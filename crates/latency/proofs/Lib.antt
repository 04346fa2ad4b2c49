pub mod Examples
pub mod Counts
pub mod Ticks
pub mod Adding
pub mod Turns
pub mod Dry
pub mod Answers
pub mod Reports
