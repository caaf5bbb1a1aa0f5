pub mod Bodies
pub mod Tails
pub mod Rising
pub mod Ordered
pub mod Bytewise
pub mod Determined
