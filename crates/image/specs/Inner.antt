-- What only the functions inside and the proofs need: a reader of the promises may leave it unread.
pub mod Inside
pub mod Same
