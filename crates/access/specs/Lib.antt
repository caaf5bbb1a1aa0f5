pub mod Needs
pub mod Access
