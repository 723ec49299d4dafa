pub mod Log
pub mod Inner
