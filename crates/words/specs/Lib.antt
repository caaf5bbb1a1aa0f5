pub mod Test
pub mod Said
pub mod Refusal
pub mod Lines
pub mod Bit
pub mod Number
pub mod Writing
pub mod Realm
