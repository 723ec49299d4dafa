pub mod Turns
pub mod Holding
pub mod Ready
pub mod Counting
pub mod Apart
