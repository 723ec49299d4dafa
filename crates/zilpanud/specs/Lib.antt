pub mod Lent
pub mod Ask
pub mod Version
