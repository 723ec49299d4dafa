pub mod Sums
pub mod Day
pub mod Inner
