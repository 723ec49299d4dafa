pub mod Place
pub mod Image
pub mod Inner
