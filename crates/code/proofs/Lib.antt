pub mod Decoding
pub mod Ranges
