pub mod Table
pub mod Op
pub mod Form
pub mod Inner
