pub mod Pieces
pub mod Pieced
