pub mod Weights
pub mod Advances
pub mod Runs
pub mod Parts
pub mod Stopping
pub mod Gathers
