pub mod Sound
pub mod Answer
pub mod Codes
pub mod Inner
