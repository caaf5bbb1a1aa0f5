pub mod Part
pub mod Meaning
