pub mod Masks
pub mod Sufficient
pub mod Verdicts
pub mod Determined
pub mod Local
