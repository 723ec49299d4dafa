pub mod InBuffers
pub mod Lines
pub mod Shell
pub mod Carried
