pub mod Entitling
pub mod Receiving
pub mod Secrecy
pub mod Steps
