pub mod Input
pub mod Output
