pub mod Recovery
pub mod Recover
pub mod Repairs
pub mod Inner
