pub mod Joinable
