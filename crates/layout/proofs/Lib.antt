pub mod ControlLaw
pub mod LocatorLaw
pub mod LocatorWriting
