pub mod Submit
pub mod Codes
pub mod Split
