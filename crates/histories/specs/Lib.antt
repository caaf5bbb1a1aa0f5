pub mod Shape
pub mod History
pub mod Callback
pub mod Demands
pub mod Widening
pub mod Longer
pub mod Exports
