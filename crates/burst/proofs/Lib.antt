pub mod Examples
pub mod Found
pub mod Streams
pub mod Strings
