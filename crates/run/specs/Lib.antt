pub mod Run
pub mod Round
pub mod Inner
pub mod Codes
