-- The user's demands 2 and 3, at the edition that the entry points serve, and what a planner may be told by them.
use native.Mathlib.Omega.{arith}
use mathlib.Core.Path.{◌≡◌}
use mathlib.Core.Bool.{true, false}
use mathlib.Core.List.{List}
use Rattle.edition.specs.Edition.{mark, own_words}
use Rattle.claims.specs.Calls.{Move, legal, machine}
use Rattle.claims.specs.Claims.{FormattedRests, Durable, DurableAlways, Linearizable, RunsAreTurns, EveryOrderHad}
use Rattle.told.specs.Once.{OnceAlways, ToldAlways, AskedAlways, BegunFinishes, ThroughAlways, RetriedAlways, ExactlyOnce}
use Rattle.told.specs.Moments.{UntouchedAlways}
use Rattle.told.specs.Reports.{ReportsExplained, ReleasesFree}
use Rattle.told.specs.Tallies.{RunsTallied}
use Rattle.told.specs.Held.{LocksCounted}
use Rattle.told.specs.Enough.{EnoughIsWhole}
use Rattle.told.specs.Turns.{TurnsExact, UncutSpanned}
use Rattle.told.specs.Spanned.{EverySpanned, EachFated}
use Rattle.told.specs.Treads.{StepsExact, LastTurns}
use Rattle.told.specs.Tied.{FollowedAlways, ReadingsTied, BegunFifth}
use Rattle.told.specs.Prefixes.{CutsArePrefixes, FormatCutsArePrefixes}
use Rattle.told.specs.Between.{PathsBetween, TurnsBetween, LeftTold}
use Rattle.told.specs.Changing.{ChangesOver, CountsAnew, Anew, RestRecovered, LoggedStored}
use Rattle.intake.specs.Split.{SubmitsSplit}
use Rattle.told.specs.Checking.{VerdictsHold}
use Rattle.intake.proofs.Split.{submits-split}
use Rattle.claims.proofs.Durable.{durable-always, formatted-rests}
use Rattle.claims.proofs.Linear.{linearizable}
use Rattle.told.proofs.RunTurns as run-turns
use Rattle.told.proofs.EveryOrder.{every-order-had}
use Rattle.told.proofs.Untouched.{untouched-always}
use Rattle.told.proofs.Reports.{reports-explained, releases-free}
use Rattle.told.proofs.Tallies.{runs-tallied}
use Rattle.told.proofs.Held as held
use Rattle.told.proofs.Enough.{enough-is-whole}
use Rattle.told.proofs.Turns as turns
use Rattle.told.proofs.Spanned as spanned
use Rattle.told.proofs.Fated as fated
use Rattle.told.proofs.Treads as treads
use Rattle.told.proofs.LastTurns as lasts
use Rattle.told.proofs.Tied as tied
use Rattle.told.proofs.Prefixes as prefixes
use Rattle.told.proofs.Between as between
use Rattle.told.proofs.Left as left
use Rattle.told.proofs.Changing as changing
use Rattle.told.proofs.AtRest as at_rest
use Rattle.told.proofs.Logged as logged
use Rattle.told.proofs.Checking.{verdicts-hold}
use Rattle.told.proofs.Once.{admitted-always, once-always, told-always, asked-always}
use Rattle.told.proofs.Finishes.{begun-finishes}
use Rattle.told.proofs.Through.{through-always}
use Rattle.told.proofs.Retry.{retried-always, exactly-once}

-- a finished formatting leaves an image at rest, from which the others start
pub formatting-rests : FormattedRests mark own_words
formatting-rests = formatted-rests mark own_words

-- ---- demand 2

-- what the calls leave is what the reference machine gives in some order
pub orders-kept : Linearizable mark own_words
orders-kept = linearizable mark own_words (omega arith) (omega arith)

-- every order that the reference machine allows is had
pub orders-had : EveryOrderHad mark own_words
orders-had = every-order-had mark own_words (omega arith) (omega arith)

-- a run is turns
pub runs-are-turns : RunsAreTurns mark own_words
runs-are-turns = run-turns.runs-are-turns mark own_words

-- and its tally is the sum over them
pub tallies-are-sums : RunsTallied mark own_words
tallies-are-sums = runs-tallied mark own_words

-- ---- demand 3

-- whatever is called and cut, nothing is refused that should not be, and every section begun is carried to its end once
pub sections-kept : DurableAlways mark own_words
sections-kept = durable-always mark own_words (omega arith) (omega arith) (admitted-always mark own_words (omega arith) (omega arith))

-- a cell changes only by a worker whose section is begun and that has the cell's lock, at any moment
pub cells-guarded : UntouchedAlways mark own_words
cells-guarded = untouched-always mark own_words (omega arith) (omega arith)

-- a release that reports its lock already free or another's is the one at which its worker was resumed
pub reports-mean-loss : ReportsExplained mark own_words
reports-mean-loss = reports-explained mark own_words (omega arith) (omega arith)

-- with no cut and no recovery every release frees its lock
pub locks-freed : ReleasesFree mark own_words
locks-freed = releases-free mark own_words (omega arith) (omega arith)

-- the mask that a call returns has just the locks with an owner, and its ones are their number
pub locks-counted : LocksCounted mark own_words
locks-counted = held.locks-counted mark own_words (omega arith) (omega arith)

-- an uncut call may be lent any number of stores that suffices
pub enough-stores : EnoughIsWhole mark own_words
enough-stores = enough-is-whole mark own_words (omega arith) (omega arith)

-- a call given k leaves the image with the first k of its stores made, and so does a formatting
pub cuts-prefixes : CutsArePrefixes mark own_words
cuts-prefixes = prefixes.cuts-are-prefixes mark own_words (omega arith) (omega arith)

pub format-prefixes : FormatCutsArePrefixes mark own_words
format-prefixes = prefixes.format-cuts-are-prefixes mark own_words

-- the reference machine, fed the sections begun, follows the order so far, and each pc says where it stands
pub machine_follows : FollowedAlways mark own_words
machine_follows = tied.followed-always mark own_words (omega arith) (omega arith)

-- a worker's reading of the events is that of its record
pub readings-tied : ReadingsTied mark own_words
readings-tied = tied.readings-tied mark own_words (omega arith) (omega arith)

-- a section is begun with the fifth store that its turns make
pub begun-fifth : BegunFifth mark own_words
begun-fifth = tied.begun-fifth mark own_words (omega arith) (omega arith)

-- ---- turns to the end

-- a section that is over took just the turns of its path on the reference machine; resumed, those from its target store on
pub turns-exact : TurnsExact mark own_words
turns-exact = turns.turns-exact mark own_words (omega arith) (omega arith)

-- with no cut and no recovery, and the worker idle, these are all sections taken from it
pub uncut-spanned : UncutSpanned mark own_words
uncut-spanned = spanned.uncut-spanned mark own_words (omega arith) (omega arith)

-- and where no cut and no recovery comes behind a moment, all that was under way then or taken since
pub every-spanned : EverySpanned mark own_words
every-spanned = spanned.every-spanned mark own_words (omega arith) (omega arith)

-- whatever is cut, each section taken is over, withdrawn, closed by a loss, or under way
pub each-fated : EachFated mark own_words
each-fated = fated.each-fated mark own_words (omega arith) (omega arith)

-- the steps that a section's turns named are those of its path, one by one
pub steps-exact : StepsExact mark own_words
steps-exact = treads.steps-exact mark own_words (omega arith) (omega arith)

-- and the last is the finish's third
pub last-turns : LastTurns mark own_words
last-turns = lasts.last-turns mark own_words (omega arith) (omega arith)

-- whatever path the reference machine takes lies between the fewest turns and the most
pub paths-between : PathsBetween mark own_words
paths-between = between.paths-between mark own_words

-- and so do the turns of a section that is over
pub turns-between : TurnsBetween mark own_words
turns-between = between.turns-between mark own_words (omega arith) (omega arith)

-- a begun section's record tells the two numbers for its resumption
pub left-told : LeftTold mark own_words
left-told = left.left-told mark own_words (omega arith) (omega arith)

-- ---- changing over

-- where all workers are idle, unless a cut came last, the image is at rest, with its cells and finished numbers
pub changes-over : ChangesOver mark own_words
changes-over = changing.changes-over mark own_words (omega arith) (omega arith)

-- and what holds of every image at rest, as all of the above and below does, counts from there as from formatting
pub counts-anew : CountsAnew mark own_words
counts-anew = changing.counts-anew mark own_words (omega arith) (omega arith)

-- so demand 3 from there on
pub sections-anew : Anew mark own_words (Durable mark own_words)
unfolding CountsAnew DurableAlways
sections-anew = (counts-anew (λ m. (ys : List Move) → machine ys ≡ true → legal false ys ≡ true → Durable mark own_words m ys) sections-kept).1

-- a recovery there is accepted and changes nothing
pub rest-recovered : RestRecovered mark own_words
rest-recovered = at_rest.rest-recovered mark own_words

-- what was logged before a cut is stored as logged
pub logged-stored : LoggedStored mark own_words
logged-stored = logged.logged-stored mark own_words

-- ---- the check apart from the load

-- a submit is causes 10, 1, 2, 3 and then the check that is had by itself
pub submit-split : SubmitsSplit mark own_words
submit-split = submits-split mark own_words

-- and what the check says is what an idle worker answers, under a number above its finished one, whatever was called and cut before
pub verdicts-kept : VerdictsHold mark own_words
verdicts-kept = verdicts-hold mark own_words (omega arith) (omega arith)

-- ---- what a planner may be told

-- each section taken is begun at most once, under rising numbers
pub begun-once : OnceAlways mark own_words
begun-once = once-always mark own_words (omega arith) (omega arith)

-- a worker's record tells the last of them
pub records-tell : ToldAlways mark own_words
records-tell = told-always mark own_words (omega arith) (omega arith)

-- and so do the answers about a number
pub answers-tell : AskedAlways mark own_words
answers-tell = asked-always mark own_words (omega arith) (omega arith)

-- what is begun will be told to be finished
pub begun-ends : BegunFinishes mark own_words
begun-ends = begun-finishes mark own_words (omega arith) (omega arith)

-- what is taken and not cut off is begun and finished
pub taken-ends : ThroughAlways mark own_words
taken-ends = through-always mark own_words (omega arith) (omega arith)

-- with numbers one after the other, finished means begun
pub numbers-follow : RetriedAlways mark own_words
numbers-follow = retried-always mark own_words (omega arith) (omega arith)

-- a section handed in until the answer is 3 is begun once
pub handed-once : ExactlyOnce mark own_words
handed-once = exactly-once mark own_words (omega arith) (omega arith)
