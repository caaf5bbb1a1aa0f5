pub mod Sets
pub mod Sentence
pub mod Symmetry
pub mod Within
pub mod Ranges
pub mod Masks
pub mod Fewer
pub mod Determined
