pub mod Plan
pub mod Repair
