pub mod Legible
pub mod Sets
pub mod Owing
pub mod Single
pub mod Loaded
pub mod Given
