pub mod Meaning
pub mod Answer
pub mod Given
