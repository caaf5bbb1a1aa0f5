pub mod Lists
pub mod Tables
pub mod Types
pub mod Version
