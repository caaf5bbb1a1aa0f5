pub mod Grant
pub mod Widest
pub mod Ask
pub mod Day
pub mod Scan
