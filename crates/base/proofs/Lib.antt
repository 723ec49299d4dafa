pub mod Bools
pub mod Counting
pub mod Filling
