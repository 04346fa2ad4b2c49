pub mod Filled
pub mod Saying
pub mod Calls
pub mod Batches
pub mod Pairs
pub mod Theorem
pub mod Examples
