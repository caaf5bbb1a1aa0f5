pub mod Kind
pub mod Reading
pub mod Standing
pub mod Bytewise
