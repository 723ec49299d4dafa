pub mod Few
pub mod Whole
pub mod WholeRounds
