-- The sums of a day: what each number counts, what every turn keeps, and the laws. Then a day as a list of calls: what its turns and events tell, each kind
-- of line beside its calls, and all lines.
pub mod Totals
pub mod Kept
pub mod Laws
pub mod Told
pub mod Turning
pub mod Rounds
pub mod Others
pub mod Machine
pub mod Days
pub mod Unhalted
