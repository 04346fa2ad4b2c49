pub mod Latency
pub mod Bench
