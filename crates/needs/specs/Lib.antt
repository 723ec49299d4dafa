pub mod Path
pub mod From
pub mod Left
pub mod Codes
pub mod Ways
pub mod Inner
