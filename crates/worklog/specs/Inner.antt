-- What only the functions inside need: a reader of the promises may leave it unread.
pub mod Logged
