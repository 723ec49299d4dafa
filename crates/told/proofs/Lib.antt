-- An uncut call may be lent any number of stores that suffices.
pub mod Enough
-- Cause 4 by itself.
pub mod Lengths
-- A run is its turns.
pub mod RunTurns
-- Whatever else lists of calls keep, by one induction; what a store writes of a record, and what stands behind a call.
pub mod Writes
pub mod Keeping
pub mod Behind
pub mod FromRest
pub mod Moments
-- Who may change a cell, at every turn of a list.
pub mod Untouched
-- Why a release passes: only one that a recovery resumed.
pub mod Collecting
pub mod Resuming
pub mod Accounting
pub mod Reports
-- How many locks are held, by the mask alone.
pub mod Held
-- Turns to the end, exactly.
pub mod Chains
pub mod Walking
pub mod Strides
pub mod WalkTurn
pub mod Pacing
pub mod Strode
pub mod Trails
pub mod Passages
pub mod OnTrack
pub mod TurnTrack
pub mod TrailEvents
pub mod TrailTurn
pub mod Spanning
pub mod Turns
pub mod Quieting
pub mod Spanned
pub mod Fated
pub mod Gathering
pub mod Tied
pub mod Treads
pub mod LastTurns
pub mod Prefixes
pub mod Trodden
pub mod PathWays
pub mod Between
pub mod Left
-- What a planner may be told: which sections are begun, by the events and by the records, after any calls and cuts; that they are
-- finished in the end; and what a client has that numbers its sections one after the other, or hands one in again and again.
pub mod Numbers
pub mod Recorded
pub mod Telling
pub mod Events
pub mod Admitted
pub mod Reading
pub mod Once
pub mod Finishes
pub mod Through
pub mod Retry
-- Demand 2, second half: every order that the reference machine follows to its end is had, entry by entry, each by a block of
-- one worker's calls.
pub mod OrderTurn
pub mod OrderLog
pub mod OrderLevel
pub mod OrderBlock
pub mod OrderLocks
pub mod OrderAssign
pub mod OrderStep
pub mod OrderSubmit
pub mod OrderEntry
pub mod OrderFeed
pub mod EveryOrder
-- Where a board may change over, and what a recovery does there; what was logged before a cut.
pub mod Neat
pub mod AtRest
pub mod Logged
pub mod Changing
-- What a submit answers: the check's verdict, once the worker is idle.
pub mod Checking
-- Agreement: the calls that the claims speak of have the effects that the functions' contracts speak of.
pub mod Agreement
-- The tally of a run is the sum over its turns.
pub mod Tallies
-- document 01's worked rows
pub mod Worked
-- the demands at the edition that the entry points serve
pub mod Demands
