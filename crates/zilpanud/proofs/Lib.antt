pub mod Apart
pub mod Asked
pub mod Codes
pub mod Counts
pub mod Crossing
