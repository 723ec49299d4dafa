pub mod Unrolled
pub mod Pass
pub mod Ways
pub mod Steps
pub mod Resumed
pub mod Straight
