pub mod Operands
pub mod Logging
pub mod Switching
