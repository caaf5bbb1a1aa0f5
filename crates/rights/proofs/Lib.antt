pub mod Choosing
pub mod Inside
pub mod Handing
pub mod Alike
pub mod Determined
pub mod Local
pub mod Opened
pub mod Day
