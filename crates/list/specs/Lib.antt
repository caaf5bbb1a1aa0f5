pub mod Fault
pub mod Checking
pub mod Walking
pub mod Day
