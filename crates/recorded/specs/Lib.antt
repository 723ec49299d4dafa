pub mod Moves
pub mod Recorded
pub mod Laws
