pub mod Places
pub mod Linear
pub mod Table
pub mod AnyOrder
