pub mod Survey
pub mod Scan
