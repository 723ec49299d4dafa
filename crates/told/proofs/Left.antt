-- What a worker's record tells of the turns that its section still needs is what the events say of it (`left-told`): after any list of calls and cuts
-- its pc names the step that was last recorded, its instructions are those of the section begun, and it is sound.
use Prim.Native.Nat.{ℕ, suc, ◌-◌, ◌%◌, ◌^◌, ◌<◌, ◌≤◌}
use mathlib.Core.Path.{◌≡◌, sym, ap, ◌∙◌}
use mathlib.Core.Bool.{true}
use mathlib.Core.List.{List}
use native.Mathlib.Omega.{arith}
use native.Mathlib.Decide.{dec_lt}
use lib.ListN.{length, get_or}
use borrow.Author.Tests.{lt-ltb, ne_eqb}
use Rattle.image.specs.declared.Field.TheVariants.{Count, Pc}
use Rattle.image.specs.Place.{field, step, Memory}
use Rattle.image.specs.Image.{at, workers, cells_of}
use Rattle.code.specs.declared.Op.TheVariants.{Finish}
use Rattle.code.specs.Op.{op_of}
use Rattle.section.specs.Check.{Code, code_of}
use Rattle.section.specs.Valid.{Valid}
use Rattle.section.proofs.Facts.{passed-valid}
use Rattle.section.proofs.Passing.{passed_is}
use Rattle.worklog.specs.Log.{code_in}
use Rattle.owed.specs.Owed.{named_op}
use Rattle.soundness.specs.Sound.{section_ok}
use Rattle.needs.specs.From.{lesser, larger}
use Rattle.needs.specs.Left.{left_by, left_of}
use Rattle.needs.proofs.Unrolled.{needs-cong}
use Rattle.claims.specs.Reference.{Given}
use Rattle.claims.specs.Claims.{of_worker, admissible, after}
use Rattle.claims.proofs.Entries.{named_step_lem}
use Rattle.claims.proofs.Covers.{crashed-parts}
use Rattle.claims.proofs.Accepted.{ok-sectioned, ok_named}
use Rattle.told.specs.Turns.{Start, resumed, Span, Now, nowhere, fresh, going, closing, passage, passage_of}
use Rattle.told.specs.Paths.{Paths}
use Rattle.told.specs.Between.{bound_by, turns, left_at, LeftTold}
use Rattle.told.proofs.FromRest.{kept-list}
use Rattle.told.proofs.Once.{admitted-list}
use Rattle.told.proofs.Pacing.{Going, Anchored}
use Rattle.told.proofs.Spanning.{Spanning, Moored, spanning-keeps}
use Rattle.told.proofs.Turns.{rested-spanning}
use Rattle.told.proofs.Between.{admits-at}

-- two sections with the same words, as far as the one goes, have as many steps: the finish is last in both
same_size : (own m n : ℕ) (a b : Code) → Valid own m a → Valid own n b → ((i : ℕ) → i < m → b i ≡ a i) → m ≡ n
same_size own m n a b v w same = by (dec_lt n m)
  where
    by : Dec (n < m) → m ≡ n
    by (yes l) =
        let low = w.least in
        let e : op_of (a (n - 1)) ≡ Finish = ap op_of (sym (same (n - 1) (omega arith))) ∙ w.last in
        let q = v.only-last (n - 1) (omega arith) e in
        omega arith
    by (no l) =
        let low = v.least in
        let e : op_of (b (m - 1)) ≡ Finish = ap op_of (same (m - 1) (omega arith)) ∙ v.last in
        let q = w.only-last (m - 1) (omega arith) e in
        omega arith

module _ (n : ℕ) (rd : Memory) (d : ℕ) where
  none_left : (pick : ℕ → ℕ → ℕ) → rd (field Pc d) ≡ 0 → left_by n rd d pick ≡ 0
  unfolding left_by
  none_left pick z = rw z

  some_left :
      (pick : ℕ → ℕ → ℕ) (ws : List ℕ) (s : ℕ) → rd (field Pc d) % 2 ^ 63 ≡ suc s → s < length ws → rd (field Count d) ≡ length ws
      → ((i : ℕ) → i < length ws → get_or ws i 0 ≡ rd (step d i)) → left_by n rd d pick ≡ bound_by pick ws (resumed s)
  unfolding left_by named_op
  some_left pick ws s q l e same =
      rw (
        ne_eqb (rd (field Pc d)) 0 (λ z. omega arith),
        named_step_lem n rd d s q,
        e,
        ← same s l,
        needs-cong pick (length ws) (code_in n rd d) (code_of ws) (λ i m. sym (same i m)) (suc s),
      )

  -- by where the worker is
  module _ (mark D : ℕ) (P : Paths) (begun : List Given) (good : admissible mark n D begun ≡ true) (ok : section_ok n rd d ≡ true) where
    going-left :
        (pick : ℕ → ℕ → ℕ) (g : Given) (b : Start) (s e : ℕ)
        → Going (rd (field Pc d)) (rd (field Count d)) (code_in n rd d) P (of_worker d begun) g b s e
        → s < rd (field Count d) → left_by n rd d pick ≡ bound_by pick g.code (resumed s)
    going-left pick g b s e G below =
        let z = G.size in
        let q = G.named in
        let passed = admits-at mark n D d begun e good (omega arith) in
        let v = passed-valid n (length g.code) (code_of g.code) (passed_is _ (rw G.which at passed)) in
        let w = (ok-sectioned n rd d ok (ne_eqb (rd (field Pc d)) 0 (λ k. omega arith))).valid in
        let size = same_size n (rd (field Count d)) (length g.code) (code_in n rd d) (code_of g.code) w v G.coded in
        some_left pick g.code s G.named (omega arith) size (λ i l. G.coded i (omega arith))

    pub left_by_lem :
        (e : ℕ) (x : Now) (xs : List Span) → Anchored (rd (field Pc d)) (rd (field Count d)) (code_in n rd d) P (of_worker d begun) (passage e x xs)
        → ((s : ℕ) → rd (field Pc d) % 2 ^ 63 ≡ suc s → s < rd (field Count d))
        → turns (left_by n rd d lesser) (left_by n rd d larger) ≡ left_at x
    left_by_lem e nowhere xs a f = rw (none_left lesser a.at.none, none_left larger a.at.none)
    left_by_lem e (fresh g t) xs a f = rw (none_left lesser a.at.none, none_left larger a.at.none)
    left_by_lem e (going g b s t) xs a f =
        let below = f s a.at.named in
        rw (going-left lesser g b s e a.at below, going-left larger g b s e a.at below)
    left_by_lem e (closing k g b t) xs a f = rw (none_left lesser a.at.0.none, none_left larger a.at.0.none)

pub left-told : (mark n : ℕ) → 8 ≤ n → n ≤ 64 → LeftTold mark n
unfolding LeftTold left_of
left-told mark n wide narrow m rest xs h l d dl =
    let D = workers m in
    let cells = cells_of m in
    let w = after mark n m xs in
    let rd = at n w.world.image in
    let c = passage_of d w.trace.events in
    let k = kept-list mark n wide narrow m rest (Spanning mark n D cells) (Moored mark n D cells) (spanning-keeps mark n D cells wide)
    (rested-spanning mark n wide narrow m rest) xs h l in
    let parts = crashed-parts n D rd k.0.crashed in
    let many : d < workers w.world.image = rw k.0.reached.many dl in
    rw (k.0.reached.header, lt-ltb d (workers w.world.image) many, k.0.crashed.sounds d dl)
    (left_by_lem n rd d mark D _ w.trace.begun (admitted-list mark n wide narrow m rest xs h l) (parts.section d dl) c.ends c.now c.spans (k.1 d dl)
    (λ s q.
    let below = (ok_named n rd d (parts.pc d dl) (ne_eqb (rd (field Pc d)) 0 (λ z. omega arith))).below in
    let named = named_step_lem n rd d s q in
    omega arith))
