pub mod Judged
pub mod Determined
pub mod Opened
pub mod Day
