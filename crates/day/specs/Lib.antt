pub mod Core
pub mod Wants
pub mod Days
pub mod Printout
