pub mod Pairs
pub mod Exactly
pub mod Determined
