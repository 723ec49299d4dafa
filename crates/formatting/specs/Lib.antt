pub mod Format
pub mod Codes
