pub mod Pieces
pub mod Spliced
pub mod Outcomes
pub mod Again
pub mod Determined
pub mod Calls
pub mod Opened
pub mod Day
