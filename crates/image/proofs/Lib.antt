pub mod Places
pub mod Apart
pub mod Header
pub mod Stores
pub mod Lists
pub mod Cells
