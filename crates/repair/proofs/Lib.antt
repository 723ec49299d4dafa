pub mod Rows
pub mod Sets
pub mod Lowest
pub mod Slots
