pub mod Table
pub mod Layout
pub mod Form
pub mod Fill
pub mod Call
pub mod Day
