pub mod Outcomes
pub mod Planned
pub mod Quiet
pub mod Going
