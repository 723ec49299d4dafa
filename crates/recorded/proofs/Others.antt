-- A recovery's line beside its two calls (`recovery-played`): the one that is cut has no store left, so that it leaves the image, and each loses the cursors,
-- which is no turn. And a submit's line beside its call (`submit-played`), by the cases of its answer.
use Prim.Native.Nat.{ℕ}
use mathlib.Core.Path.{◌≡◌, refl, ◌∙◌}
use mathlib.Core.List.{List, [], ◌∷◌, append-nil}
use Rattle.std.proofs.Common.{Ok, Err}
use Rattle.image.specs.Image.{Image, header_ok}
use Rattle.image.proofs.Lists.{header-all, put_all-none}
use Rattle.edition.specs.Edition.{mark, own_words}
use Rattle.intake.specs.Submit.{Submitted, submission, submit_answer, submit_leaves}
use Rattle.recovery.specs.Recovery.{Recovered, accepted, rejected, recovery}
use Rattle.recovery.specs.Recover.{recovery_leaves}
use Rattle.frames.specs.Line.{arguments_of, steps_part, words_of}
use Rattle.claims.specs.Reference.{given}
use Rattle.claims.specs.Calls.{Traced, traced, submit_trace, submits, recovers, whole, cut, call, move, play}
use Rattle.lines.specs.Play.{uncut, submitted, submit_stage}
use Rattle.lines.specs.Whole.{Took}
use Rattle.stages.specs.Lines.{submit_whole, recover_whole}
use Rattle.recorded.proofs.Told.{told-lost, told-taken}
use Rattle.recorded.proofs.Turning.{Good, Ends, all-lent}

-- ---- 03

-- with no store left
none_left : (m : Image) (r : Recovered) → recovery_leaves own_words 0 m r ≡ m
none_left m (accepted ss cs) = put_all-none own_words m ss
none_left m (rejected r) = refl

recovery-header : (left : ℕ) (m : Image) (r : Recovered) → header_ok mark own_words (recovery_leaves own_words left m r) ≡ header_ok mark own_words m
recovery-header left m (accepted ss cs) = header-all own_words mark left m ss
recovery-header left m (rejected r) = refl

module _ (w : Traced) (ts : List Took) (g : Good ts w) where
  pub recovery-played :
      Ends ts (recover_whole w.world.image (recovery mark own_words w.world.image)) (play mark own_words (cut 0 recovers ∷ whole recovers ∷ []) w)
  unfolding play move call
  recovery-played =
      let m = w.world.image in
      let e = none_left m (recovery mark own_words m) in
      let es = w.trace.events in
      let t = told-lost ts _ (told-lost ts _ (told-lost ts es g.told)) in
      record {
        image = rw e;
        cursors = rw e;
        good = record { header = rw e (recovery-header 18446744073709551615 m (recovery mark own_words m) ∙ g.header); told = rw append-nil t };
      }

-- ---- 01

module _ (w : Traced) (ts : List Took) (d k : ℕ) (args ws : List ℕ) (g : Good ts w) where
  answer-played : (a : Submitted)
      → Ends ts (submit_whole (submitted (submit_leaves own_words (uncut w.world.image w.world.cursors) d k args ws a) a))
      (traced (submit_leaves own_words (all-lent w).world d k args ws a) (submit_trace mark own_words w.trace (given d k args ws) a))
  answer-played (Ok u) =
      record {
        image = refl;
        cursors = refl;
        good = record {
          header = header-all own_words mark 18446744073709551615 w.world.image (submission own_words d k args ws) ∙ g.header;
          told = rw append-nil (told-taken ts w.trace.events (given d k args ws) g.told);
        };
      }
  answer-played (Err r) = record { image = refl; cursors = refl; good = record { header = g.header; told = rw append-nil g.told } }

pub submit-played : (w : Traced) (ts : List Took) (l : List ℕ) (d k : ℕ) → Good ts w
    → Ends ts (submit_whole (submit_stage w.world.image w.world.cursors l d k))
    (play mark own_words (whole (submits d k (arguments_of l) (words_of (steps_part l))) ∷ []) w)
unfolding play move call
submit-played w ts l d k g =
    let ws = words_of (steps_part l) in
    answer-played w ts d k (arguments_of l) ws g (submit_answer mark own_words (all-lent w).world d k ws)
