pub mod Answers
pub mod Play
pub mod Whole
