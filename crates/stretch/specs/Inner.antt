-- What only the functions inside need: a reader of the promises may leave it unread.
pub mod Single
pub mod Logged
pub mod Locks
pub mod Stretch
pub mod Whole
