pub mod Asking
pub mod Steps
pub mod Evaluation
pub mod Tally
