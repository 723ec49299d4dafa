pub mod Rules
pub mod Inner
