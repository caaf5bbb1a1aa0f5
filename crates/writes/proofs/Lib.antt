pub mod Stored
pub mod Determined
