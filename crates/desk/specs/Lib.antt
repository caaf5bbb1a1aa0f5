pub mod Order
pub mod Grant
pub mod Widest
pub mod Ask
pub mod Verdict
pub mod Day
