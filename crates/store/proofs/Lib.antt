pub mod Chains
pub mod Fresh
pub mod Determined
