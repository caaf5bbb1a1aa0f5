pub mod Carried
pub mod Determined
