pub mod Adts
