pub mod Check
pub mod Sets
pub mod Valid
pub mod Meaning
pub mod Inner
