-- What the store of a pc adds to a worker's path on the reference machine (`walk_first`, `walk-later`): the jumps made before it, of one turn each,
-- all of them between the step that the pc named and the one that it names now; and then this step. By induction on the jumps.
use Prim.Native.Nat.{ℕ, suc, zero, ◌+◌, ◌<◌, ◌≤◌}
use mathlib.Core.Path.{◌≡◌, refl, sym, ap, ◌∙◌}
use mathlib.Core.Bool.{Bool, true, false, cond}
use mathlib.Core.List.{List, [], ◌∷◌, ◌++◌, append-nil, append_assoc}
use mathlib.Core.Option.{Option, some, none}
use native.Mathlib.Omega.{arith}
use lib.ListN.{length, get_or, replicate}
use lib.Seq.{get_or-set_same, set-get_or}
use lib.Dec.{eqb}
use borrow.Author.Tests.{eq-eqb}
use Rattle.image.specs.declared.Field.TheVariants.{Count, Pc}
use Rattle.image.specs.Place.{field, step, Memory}
use Rattle.code.specs.Op.{is_finish}
use Rattle.code.specs.declared.Op.{Op}
use Rattle.code.specs.declared.Op.TheVariants.{Acquire, Jump}
use Rattle.code.specs.Table.{turns_of}
use Rattle.code.proofs.Ranges.{turns-op}
use Rattle.rules.specs.Rules.{covered}
use Rattle.section.specs.Check.{Code}
use Rattle.section.specs.Valid.{Valid}
use Rattle.working.specs.Cursor.{Cursor}
use Rattle.worklog.specs.Log.{code_in, word_in}
use Rattle.needs.specs.Path.{turns_along}
use Rattle.claims.specs.Reference.{Given, Job, job, State, state, read_in, onto, advance, follow, start, enqueue}
use Rattle.claims.proofs.Invariant.{op_at, held_at, Jumps, stay, leap, Live, JobOf, Mirrors}
use Rattle.claims.proofs.Jumping.{standing, jumps-follow}
use Rattle.claims.proofs.Entries.{named-pc, named_step_lem}
use Rattle.claims.proofs.Apart.{Busy, busy-between, reads_same}
use Rattle.told.specs.Paths.{Paths, paths, further, gone, entered, then_on, walk}
use Rattle.told.specs.Turns.{All}
use Rattle.told.proofs.Strides.{Coming}
use Rattle.told.proofs.Chains.{chain, lands}
use Rattle.told.proofs.Walking.{walk_none, walk-append}

-- ---- sums and lists

pub along-append : (code : Code) (xs ys : List ℕ) → turns_along code (xs ++ ys) ≡ turns_along code xs + turns_along code ys
unfolding turns_along
along-append code [] ys = omega arith
along-append code (x ∷ xs) ys = rw (along-append code xs ys) (omega arith)

pub along_one : (code : Code) (i : ℕ) → turns_along code (i ∷ []) ≡ turns_of (code i)
unfolding turns_along
along_one code i = omega arith

pub all_append : {A : Type 0} (P : A → Type 0) (xs ys : List A) → All P xs → All P ys → All P (xs ++ ys)
all_append P [] ys h k = k
all_append P (x ∷ xs) ys (p, h) k = (p, all_append P xs ys h k)

pub all_map : {A : Type 0} (P Q : A → Type 0) (xs : List A) → ((x : A) → P x → Q x) → All P xs → All Q xs
all_map P Q [] f h = tt
all_map P Q (x ∷ xs) f (p, h) = (f x p, all_map P Q xs f h)

-- from a step up and below another
abbrev pub FromTo : ℕ → ℕ → ℕ → Type 0
FromTo lo hi x = (lo ≤ x) × (x < hi)

-- ---- entries of the worker

-- a last entry, made or not
walk-single : (d : ℕ) (p : Paths) (s : State) → walk d p s (d ∷ []) ≡ gone p (get_or s.queues d [])
unfolding walk
walk-single d p s = by (advance s d)
  where
    by : (o : Option State) → (let q = entered d p s d in then_on o q (λ t. walk d q t [])) ≡ gone p (get_or s.queues d [])
    by none = rw (eq-eqb d d refl)
    by (some t) = walk_none d (entered d p s d) t ∙ rw (eq-eqb d d refl)

replicate-last : (k d : ℕ) → replicate (suc k) d ≡ replicate k d ++ (d ∷ [])
replicate-last zero d = refl
replicate-last (suc k) d = ap (λ (l : List ℕ). d ∷ l) (replicate-last k d)

walk-last : (d : ℕ) (p : Paths) (k : ℕ) (s t : State) → follow s (replicate k d) ≡ some t
    → walk d p s (replicate (suc k) d) ≡ gone (walk d p s (replicate k d)) (get_or t.queues d [])
walk-last d p k s t f =
    ap (walk d p s) (replicate-last k d) ∙ (walk-append d p s t (replicate k d) (d ∷ []) f ∙ walk-single d (walk d p s (replicate k d)) t)

-- a step of no finish, and a finish
pub further-on : (p : Paths) (i : ℕ) (x : Op) → is_finish x ≡ false → further p i x ≡ paths p.ended (p.under ++ (i ∷ []))
unfolding further
further-on p i x e = rw e

pub further-end : (p : Paths) (i : ℕ) (x : Op) → is_finish x ≡ true → further p i x ≡ paths (p.ended ++ ((p.under ++ (i ∷ [])) ∷ [])) []
unfolding further
further-end p i x e = rw e

-- with a path that goes on by these steps
abbrev pub longer : Paths → List ℕ → Paths
longer p xs = paths p.ended (p.under ++ xs)

-- ---- jumps

module _ (n : ℕ) (rd : Memory) (d : ℕ) (val : Valid n (rd (field Count d)) (code_in n rd d)) (i : ℕ) where
  -- a jump goes forward
  leap-on : (k a b : ℕ) → k < rd (field Count d) → op_at n rd d k ≡ Jump a b → k < cond (eqb (word_in n rd d a) 0) b (suc k)
  leap-on k a b l o = by (eqb (word_in n rd d a) 0)
    where
      by : (z : Bool) → k < cond z b (suc k)
      by true = (val.jumps k a b l o).0
      by false = omega arith

  pub jumps-rise : {j k : ℕ} → Jumps n rd d i j k → i ≤ k
  jumps-rise stay = omega arith
  jumps-rise (leap j k a b J l o) = omega (arith, jumps-rise J, leap-on k a b l o)

  module _ (S : State) (c o : List ℕ) (h : ℕ) (room : d < length S.queues) (code : (x : ℕ) → x < rd (field Count d) → get_or c x 0 ≡ rd (step d x))
      (reads : (x : ℕ) → covered (held_at n rd d i) x ≡ true → x < 512 + n → read_in S.cells o x ≡ word_in n rd d x)
      (words : Code) (same : (x : ℕ) → x < rd (field Count d) → words x ≡ rd (step d x)) (p : Paths) where
    -- the steps of these jumps
    record Jumped (j k : ℕ) : Type 0 where
      steps : List ℕ
      walks : walk d p (standing S d c o h i) (replicate j d) ≡ longer p steps
      turns : turns_along words steps ≡ j
      inside : All (FromTo i k) steps
      chained : steps ≡ chain n rd d i j

    -- the worker's queue before step k
    at-step : (k : ℕ) → get_or (standing S d c o h k).queues d [] ≡ job c k o h ∷ []
    at-step k = get_or-set_same S.queues d (job c k o h ∷ []) [] room

    -- one more step, with its instruction
    pub gone_at :
        (q : Paths) (k : ℕ) (x : Op) → k < rd (field Count d) → op_at n rd d k ≡ x
        → gone q (get_or (standing S d c o h k).queues d []) ≡ further q k x
    gone_at q k x l e = rw (at-step k, code k l, e)

    jumped : {j k : ℕ} → Jumps n rd d i j k → Jumped j k
    unfolding turns_along
    jumped stay =
        record { steps = []; walks = walk_none d p _ ∙ ap (paths p.ended) (sym (append-nil p.under)); turns = refl; inside = tt; chained = refl }
    jumped (leap j k a b J l e) =
        let x = jumped J in
        let up = leap-on k a b l e in
        record {
          steps = x.steps ++ (k ∷ []);
          walks =
              walk-last d p j (standing S d c o h i) (standing S d c o h k) (jumps-follow n rd d val i S c o h room code reads J)
              ∙ (rw x.walks (gone_at (longer p x.steps) k (Jump a b) l e)
              ∙ (further-on (longer p x.steps) k (Jump a b) refl ∙ ap (paths p.ended) (append_assoc p.under x.steps (k ∷ []))));
          turns = rw (along-append words x.steps (k ∷ []), x.turns, along_one words k, same k l, turns-op (rd (step d k)) (Jump a b) e) (omega arith);
          inside =
              all_append (FromTo i _) x.steps (k ∷ []) (all_map (FromTo i k) (FromTo i _) x.steps (λ y q. (q.0, omega arith)) x.inside)
              ((jumps-rise J, up), tt);
          chained = rw (x.chained, lands n rd d J);
        }

-- ---- the store of a pc

module _ (n D : ℕ) (rd : Memory) (cursor : ℕ → Cursor) (locks jumps : ℕ → ℕ) (given : ℕ → Given) (L : Live n D rd cursor locks jumps given) (d : ℕ) (l : d < D)
    (S : State) (M : Mirrors n D rd S) (p : Paths) where
  -- a section's first instruction, with which it is fed
  pub walk_first :
      (g : Given) (a : ℕ) → g.worker ≡ d → get_or g.code 0 0 ≡ rd (step d 0) → rd (field Pc d) ≡ 0 → op_at n rd d 0 ≡ Acquire a
      → walk d p (enqueue n S g) (d ∷ []) ≡ longer p (0 ∷ [])
  walk_first g a mine code z o =
      let q : get_or (enqueue n S g).queues d [] ≡ start n g ∷ [] =
      rw (mine, M.none d l z, get_or-set_same S.queues d (start n g ∷ []) [] (rw M.workers l))
      in
      walk-single d p (enqueue n S g) ∙ rw (q, code, o) (further-on p 0 (Acquire a) refl)

  -- a later one, of step i, to which j jumps lead from behind the named step s
  module _ (words : Code) (same : (x : ℕ) → x < rd (field Count d) → words x ≡ rd (step d x)) where
    pub record PathGrows (s i j : ℕ) : Type 0 where
      pub steps : List ℕ
      pub walks : walk d p S (replicate (suc j) d) ≡ further (longer p steps) i (op_at n rd d i)
      pub turns : turns_along words steps ≡ j
      pub inside : All (FromTo (suc s) i) steps
      pub chained : steps ≡ chain n rd d (suc s) j

    pub walk-later : (s i t j : ℕ) → Coming n rd d (locks d) s i t j → PathGrows s i j
    walk-later s i t j C =
        let B = busy-between n rd d s i t (locks d) C.sectioned C.named C.owned C.level C.near in
        let (b, q, J) = M.some d l (named-pc n rd d s C.named.pc) in
        by B b q J
      where
        by : Busy n rd d (locks d) s → (b : Job) → get_or S.queues d [] ≡ b ∷ [] → JobOf n D rd d b → PathGrows s i j
        by B b q J =
            let val = C.sectioned.valid in
            let room : d < length S.queues = rw M.workers l in
            let e : onto S d b [] ≡ S = ap (state S.cells) (rw (← q) (set-get_or S.queues d [])) in
            let f : b.next ≡ suc s = J.next ∙ ap suc (named_step_lem n rd d s C.named.pc) in
            let here : S ≡ standing S d b.code b.own b.held (suc s) =
            sym e ∙ ap (λ (x : ℕ). onto S d (job b.code x b.own b.held) []) f in
            let reads = reads_same n D rd cursor locks jumps given L d s l B C.made S b M J in
            let x = jumped n rd d val (suc s) S b.code b.own b.held room J.code reads words same p C.leaps in
            let follows = jumps-follow n rd d val (suc s) S b.code b.own b.held room J.code reads C.leaps in
            record {
              steps = x.steps;
              walks =
                  ap (λ (y : State). walk d p y (replicate (suc j) d)) here
                  ∙ (walk-last d p j (standing S d b.code b.own b.held (suc s)) (standing S d b.code b.own b.held i) follows
                  ∙ rw x.walks
                  (gone_at n rd d val (suc s) S b.code b.own b.held room J.code reads words same p (longer p x.steps) i (op_at n rd d i)
                  C.below refl));
              turns = x.turns;
              inside = x.inside;
              chained = x.chained;
            }
