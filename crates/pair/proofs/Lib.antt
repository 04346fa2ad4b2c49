pub mod Calling
pub mod Enough
pub mod Judging
pub mod Lowest
pub mod Numbers
