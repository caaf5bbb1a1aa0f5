pub mod Recorded
pub mod Determined
