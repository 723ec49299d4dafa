pub mod Going
pub mod Drains
pub mod Anyhow
pub mod Ends
pub mod Printout
