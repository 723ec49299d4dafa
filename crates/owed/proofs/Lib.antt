pub mod Covering
pub mod Sharing
