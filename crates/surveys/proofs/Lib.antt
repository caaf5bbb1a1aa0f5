pub mod Surveyed
pub mod Determined
