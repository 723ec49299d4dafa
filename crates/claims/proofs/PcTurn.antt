-- The store of a pc in a live memory, on the reference machine: the jumps made before it and then the whole instruction that it
-- counts. First for a section's first instruction, an acquire, with which the section is submitted; then for a later one.
use Prim.Native.Nat.{ℕ, suc, ◌+◌, ◌<◌, ◌≤◌}
use mathlib.Core.Path.{◌≡◌, refl, sym, ap, ◌∙◌}
use mathlib.Core.Bool.{true, cond}
use mathlib.Core.List.{[], ◌∷◌}
use mathlib.Core.Option.{some}
use native.Mathlib.Omega.{arith}
use lib.ListN.{get_or, replicate}
use lib.Seq.{set-get_or}
use lib.Dec.{eqb}
use borrow.Author.Tests.{ne_eqb}
use Rattle.mask.specs.Mask.{has, with, without}
use Rattle.mask.proofs.Laws.{has-none}
use Rattle.image.specs.declared.Field.TheVariants.{Count, Pc, Owned}
use Rattle.image.specs.Place.{field, own, Memory}
use Rattle.image.specs.Inner.Same.{upd}
use Rattle.code.specs.declared.Expr.{Expr}
use Rattle.code.specs.declared.Op.TheVariants.{Acquire, Release, Assign, Finish}
use Rattle.code.specs.Op.{eval}
use Rattle.rules.specs.Rules.{covered}
use Rattle.section.proofs.Facts.{acquire-free}
use Rattle.code.proofs.Ranges.{acquire-range, assign-range, expr-range}
use Rattle.working.specs.Cursor.{Cursor}
use Rattle.worklog.specs.Log.{code_in, word_in, spare_val, active_val, switched}
use Rattle.owed.specs.Owed.{target_of}
use Rattle.claims.specs.Reference.{Given, Job, job, State, state, read_in, onto, follow, start, enqueue}
use Rattle.claims.proofs.Invariant.{op_at, held_at, Sectioned, Jumps, Lodged, Live, JobOf, Mirrors}
use Rattle.claims.proofs.Machine.{follow_one, follow-last}
use Rattle.claims.proofs.Entries.{named-pc, named_step_lem}
use Rattle.claims.proofs.Apart.{Busy, covered-guarded, virtual-resting, virtual-owned, reads_same}
use Rattle.claims.proofs.Switching.{Freed, freed-resting, freed-settled}
use Rattle.claims.proofs.Counts.{Poised, Counts, counts-acquire, counts-release, counts-assign, counts-finish}
use Rattle.claims.proofs.Jumping.{jumps-follow}
use Rattle.claims.proofs.Frame.{eval-same}

-- the state at which an instruction of worker d is made: a section that begins is submitted now
abbrev pub began : ℕ → Memory → State → Given → ℕ → State
began n rd S g d = cond (eqb (rd (field Pc d)) 0) (enqueue n S g) S

-- the pc store v of worker d counts
abbrev pub Counted : ℕ → ℕ → Memory → State → ℕ → Given → ℕ → ℕ → Type 0
Counted n D rd S j g d v = (S' : State) × (follow (began n rd S g d) (replicate (suc j) d) ≡ some S') × Mirrors n D (upd rd (field Pc d) v) S'

module _ (n D : ℕ) (rd : Memory) (cursor : ℕ → Cursor) (locks jumps : ℕ → ℕ) (given : ℕ → Given) (L : Live n D rd cursor locks jumps given) (d : ℕ) (l : d < D)
    (S : State) (M : Mirrors n D rd S) (sec : Sectioned n rd d) where
  -- ---- the first instruction

  began-fresh : Lodged n rd d (given d) → rd (field Pc d) ≡ 0 → began n rd S (given d) d ≡ onto S d (start n (given d)) []
  began-fresh H p = rw p (rw (H.by, M.none d l p))

  poised-fresh : Lodged n rd d (given d) → rd (field Pc d) ≡ 0 → rd (field Owned d) ≡ 0 → Poised n D rd d 0 (start n (given d))
  poised-fresh H p o =
      record {
        next = refl;
        held = sym (virtual-resting n D rd cursor locks jumps given L d l p (field Owned d) refl ∙ o);
        size = H.size;
        own = λ i m. H.args i m ∙ sym (virtual-resting n D rd cursor locks jumps given L d l p (own d i) refl);
        code = H.code;
      }

  pub fresh-counted :
      Lodged n rd d (given d) → rd (field Pc d) ≡ 0 → rd (field Owned d) ≡ 0 → (a : ℕ) → op_at n rd d 0 ≡ Acquire a → has (locks d) a ≡ true
      → rd (field (spare_val n rd d) d) ≡ with 0 a → Counted n D rd S 0 (given d) d (switched n rd d 0)
  fresh-counted H p o a x h v =
      let c : 3 ≤ rd (field Count d) = sec.valid.least in
      let (S', e, m) =
      counts-acquire n D rd cursor locks jumps given L d l 0 (omega arith) (freed-resting n D rd d p) S M (start n (given d)) (poised-fresh H p o) (omega arith)
      a x
      (acquire-range n (code_in n rd d 0) a (sec.valid.ranges 0 (omega arith)) x) h (has-none a) v
      in
      (S', rw (began-fresh H p) (follow_one (onto S d (start n (given d)) []) S' d e), m)

  -- ---- a later instruction: step k, to which jumps lead from behind the named step s

  module _ (s k i : ℕ) (B : Busy n rd d (locks d) s) (made : rd (target_of d (op_at n rd d s)) ≡ rd (field (active_val n rd d) d))
      (leaps : Jumps n rd d (suc s) i k) (below : k < rd (field Count d)) (level : held_at n rd d k ≡ held_at n rd d (suc s))
      (j : Job) (q : get_or S.queues d [] ≡ j ∷ []) (J : JobOf n D rd d j) where
    -- the section before step k
    abbrev here : Job
    here = job j.code k j.own j.held

    began-later : began n rd S (given d) d ≡ onto S d (job j.code (suc s) j.own j.held) []
    began-later =
        let e : onto S d j [] ≡ S = ap (state S.cells) (rw (← q) (set-get_or S.queues d [])) in
        let f : j.next ≡ suc s = J.next ∙ ap suc (named_step_lem n rd d s B.named.pc) in
        rw (ne_eqb (rd (field Pc d)) 0 (named-pc n rd d s B.named.pc)) (sym e ∙ ap (λ (x : ℕ). onto S d (job j.code x j.own j.held) []) f)

    reads : (x : ℕ) → covered (held_at n rd d (suc s)) x ≡ true → x < 512 + n → read_in S.cells j.own x ≡ word_in n rd d x
    reads = reads_same n D rd cursor locks jumps given L d s l B made S j M J

    jumped-here : follow (began n rd S (given d) d) (replicate i d) ≡ some (onto S d here [])
    jumped-here =
        rw began-later
        (jumps-follow n rd d sec.valid (suc s) S j.code j.own j.held (rw M.workers l) J.code reads leaps)

    poised-here : Poised n D rd d k here
    poised-here = record { next = refl; held = J.held; size = J.size; own = J.own; code = J.code }

    held-here : j.held ≡ held_at n rd d k
    held-here = J.held ∙ (virtual-owned n D rd cursor locks jumps given L d s l B ∙ sym level)

    freed : Freed n D rd d
    freed = freed-settled n D rd cursor locks jumps given L d l s B made

    few : k < 64
    few = let c : rd (field Count d) ≤ 64 = sec.valid.most in omega arith

    counted : (v : ℕ) → Counts n D (upd rd (field Pc d) v) (onto S d here []) d → Counted n D rd S i (given d) d v
    counted v c = (c.0, follow-last (began n rd S (given d) d) (onto S d here []) c.0 i d jumped-here c.1, c.2)

    pub counted-acquire :
        (a : ℕ) → op_at n rd d k ≡ Acquire a → has (locks d) a ≡ true → rd (field (spare_val n rd d) d) ≡ with (held_at n rd d k) a
        → Counted n D rd S i (given d) d (switched n rd d k)
    counted-acquire a x h v =
        counted (switched n rd d k)
        (counts-acquire n D rd cursor locks jumps given L d l k few freed S M here poised-here below a x
        (acquire-range n (code_in n rd d k) a (sec.valid.ranges k below) x) h
        (rw held-here (acquire-free n (rd (field Count d)) (code_in n rd d) k a sec.valid below x)) (rw held-here v))

    pub counted-release :
        (a : ℕ) → op_at n rd d k ≡ Release a → rd (field (spare_val n rd d) d) ≡ without (held_at n rd d k) a
        → Counted n D rd S i (given d) d (switched n rd d k)
    counted-release a x v =
        counted (switched n rd d k) (counts-release n D rd cursor locks jumps given L d l k few freed S M here poised-here below a x (rw held-here v))

    pub counted-assign :
        (a : ℕ) (e : Expr) → op_at n rd d k ≡ Assign a e → rd (field (spare_val n rd d) d) ≡ eval (word_in n rd d) e
        → Counted n D rd S i (given d) d (switched n rd d k)
    counted-assign a e x v =
        let w = code_in n rd d k in
        let r = sec.valid.ranges k below in
        let c : covered (held_at n rd d (suc s)) a ≡ true = rw (← level) (sec.valid.targets k a e below x) in
        counted (switched n rd d k)
        (counts-assign n D rd cursor locks jumps given L d l k few freed S M here poised-here below a e x (assign-range n w a e r x)
        (covered-guarded d (held_at n rd d (suc s)) (locks d) a B.within c)
        (v
        ∙ sym
        (eval-same n (held_at n rd d (suc s)) (read_in S.cells j.own) (word_in n rd d) reads e (rw (← level) (sec.valid.operands k a e below x))
        (expr-range n w a e r x))))

    pub counted-finish : op_at n rd d k ≡ Finish → Counted n D rd S i (given d) d 0
    counted-finish x = counted 0 (counts-finish n D rd cursor locks jumps given L d l k few freed S M here poised-here below x)
