pub mod Owed
pub mod Inner
