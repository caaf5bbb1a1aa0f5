pub mod Sought
pub mod Returned
pub mod Freed
pub mod Kept
pub mod Count
pub mod Determined
pub mod Opened
pub mod Day
