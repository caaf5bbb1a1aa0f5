pub mod Listed
pub mod Kept
pub mod Issued
pub mod Widening
pub mod Asked
pub mod Determined
pub mod Opened
pub mod Day
