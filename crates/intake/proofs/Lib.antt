pub mod Assigns
pub mod Submission
pub mod Split
