pub mod Editing
pub mod Writing
pub mod Day
