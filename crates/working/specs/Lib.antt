pub mod Cursor
pub mod Refusal
pub mod World
pub mod Inner
