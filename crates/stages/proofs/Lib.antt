pub mod Words
pub mod Buffers
