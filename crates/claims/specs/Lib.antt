pub mod Reference
pub mod Events
pub mod Calls
pub mod Claims
