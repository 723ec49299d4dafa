pub mod Call
pub mod Counted
pub mod Codes
pub mod Inner
