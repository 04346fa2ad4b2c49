pub mod Correction
pub mod Corrects
pub mod ErrorPlaces
pub mod ErrorValues
pub mod Marks
