pub mod Entry
pub mod Spelling
pub mod NewList
pub mod Plan
pub mod Spot
