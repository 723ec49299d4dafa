pub mod Stepping
pub mod Waiting
pub mod Underway
