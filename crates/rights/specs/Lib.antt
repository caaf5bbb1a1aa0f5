pub mod Right
pub mod Mode
pub mod Deciding
pub mod Day
