pub mod Linear
pub mod Tables
pub mod Laws
