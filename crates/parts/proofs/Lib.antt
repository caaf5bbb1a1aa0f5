pub mod Lost
pub mod Staying
pub mod Meant
pub mod Determined
