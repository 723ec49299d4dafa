pub mod Lines
pub mod Longer
