pub mod Audit
pub mod Before
