pub mod Bursts
pub mod Channel
pub mod Copies
pub mod Delivery
pub mod Diversity
pub mod Entitlement
pub mod Interruptions
