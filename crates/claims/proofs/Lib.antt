-- The invariant: sets of locks, the memory as it will be once every logged store is made, where each worker stands, and what
-- one turn is to do to that.
pub mod Sets
pub mod Virtual
pub mod Invariant
pub mod Turns
-- A worker's own turn: what a store leaves of its record, that no turn is refused, and that each turn keeps the worker's own part
-- of the invariant.
pub mod Fields
pub mod Ready
pub mod Origins
pub mod Nearing
pub mod Dues
pub mod OwnTurn
-- The other workers: they see nothing of a turn, so that it keeps the whole invariant.
pub mod Frame
pub mod LiveTurn
-- The reference machine and the mirror: laws of the machine; a store of a pc is a whole instruction of the machine, with the jumps
-- before it, and any other store is none.
pub mod Machine
pub mod Feeding
pub mod Entries
pub mod Stutter
pub mod Apart
pub mod Switching
pub mod Counts
pub mod Jumping
pub mod PcTurn
pub mod MirrorTurn
-- Cuts and recovery: a memory that keeps the invariant is one that a recovery accepts, so is one after any prefix of a recovery's
-- stores, and after all of them the invariant holds.
pub mod Covers
pub mod LiveCrashed
pub mod StoreRows
pub mod RecoveryFrame
pub mod Stages
pub mod Accepted
pub mod Recovered
pub mod RecoveryImage
-- Handing in: what the stores of a submission leave, that the invariant holds after all of them, that a recovery accepts any
-- prefix, and that the reference machine sees nothing of them, nor of a recovery's.
pub mod Laid
pub mod Submitting
pub mod Submission
pub mod SubmissionImage
pub mod Unseen
-- Calls and lists of calls: each keeps the invariant of the whole world, cut or not; its two ends, images at rest.
pub mod AtStore
pub mod Cursors
pub mod Worlds
pub mod Turning
pub mod Called
pub mod Moves
pub mod Played
pub mod Resting
-- Ranks and rounds: each turn that stores or moves brings its worker nearer to its end, some open worker's turn always does, and
-- so rounds enough leave every worker idle, in whatever runs and with whatever turns among them; what a turn and a run answer.
pub mod Rank
pub mod Progress
pub mod Settling
pub mod Working
pub mod Answers
-- Demand 3: after any calls and cuts a recovery is accepted, and runs of 384 rounds a worker leave all at rest.
pub mod Durable
-- Demand 2, first half: with no cut the cells are those that the reference machine gives for the sections taken.
pub mod Pending
pub mod Pairing
pub mod Linear
