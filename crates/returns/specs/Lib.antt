pub mod Return
pub mod DropHost
pub mod Day
pub mod Slots
