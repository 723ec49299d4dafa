pub mod Apart
pub mod Idling
pub mod Rounds
pub mod Next
pub mod Staying
pub mod Laps
pub mod Solo
pub mod Going
