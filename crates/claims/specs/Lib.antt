pub mod Types
pub mod Claim
pub mod Rule
pub mod Mask
