pub mod Laws
pub mod Sets
pub mod Members
pub mod Lowest
pub mod Ones
pub mod Highest
