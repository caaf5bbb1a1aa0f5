pub mod Narrowed
pub mod Largest
pub mod Determined
