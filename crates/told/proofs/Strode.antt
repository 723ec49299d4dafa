-- The strides that add to a worker's path: a jump, the store of a pc at a section's first step, at a later one and at its finish, and the last turn.
-- And what a submission and a loss make of a worker's passage. (`Pacing` has the invariant.)
use Prim.Native.Nat.{ℕ, suc, ◌+◌, ◌%◌, ◌^◌, ◌<◌}
use mathlib.Core.Path.{◌≡◌, refl, sym, ap, ◌∙◌}
use mathlib.Core.Bool.{true}
use mathlib.Core.List.{List, [], ◌∷◌, ◌++◌, append-nil}
use native.Mathlib.Omega.{arith}
use lib.ListN.{length, get_or, length-append}
use lib.ListN.{get_or-append}
use lib.Seq.{get_or_at}
use borrow.Author.Tests.{eq-eqb, ne_eqb}
use Rattle.code.specs.declared.Op.TheVariants.{Finish}
use Rattle.code.specs.Table.{turns_of}
use Rattle.code.specs.Op.{op_of}
use Rattle.code.proofs.Ranges.{turns-op}
use Rattle.section.specs.Check.{Code, code_of}
use Rattle.working.specs.Cursor.{Cursor, idle, on}
use Rattle.needs.specs.Path.{turns_along}
use Rattle.needs.specs.Left.{resumed_turns}
use Rattle.claims.specs.Reference.{Given}
use Rattle.claims.specs.Calls.{nothing}
use Rattle.claims.proofs.Submitting.{on-not-idle}
use Rattle.told.specs.Paths.{Paths, paths}
use Rattle.told.specs.Turns.{Start, first, Span, span, Now, nowhere, fresh, going, closing, Passage, passage, turned, naming, finishing, losing}
use Rattle.told.specs.Turns.{needed, All}
use Rattle.told.proofs.Resuming.{same_step}
use Rattle.told.proofs.Strides.{is_logged}
use Rattle.needs.proofs.Ways.{along-end}
use Rattle.told.proofs.WalkTurn.{along_one, all_append, all_map, FromTo, longer}
use Rattle.told.proofs.Pacing.{StartsOn, starts_more, starts-last, after_last, needed-more, Accords, Off, Going, Anchored, Paced}

-- ---- longer lists

accords-more :
    (P Q : Paths) (mine more : List Given) (ends : List (List ℕ)) → Q.ended ≡ P.ended ++ ends → (x : Span) → Accords P mine x → Accords Q (mine ++ more) x
accords-more P Q mine more ends e x (l, g, k, t, c) = (
  rw (length-append mine more) (omega arith),
  get_or-append mine more nothing x.which l ∙ g,
  rw (e, length-append P.ended ends) (omega arith),
  t ∙ rw (e, get_or-append P.ended ends [] x.which k),
  rw (e, get_or-append P.ended ends [] x.which k) c,
)

-- the same sections
accords-same : (P Q : Paths) (mine : List Given) (ends : List (List ℕ)) → Q.ended ≡ P.ended ++ ends → (x : Span) → Accords P mine x → Accords Q mine x
accords-same P Q mine ends e x (l, g, k, t, c) = (
  l,
  g,
  rw (e, length-append P.ended ends) (omega arith),
  t ∙ rw (e, get_or-append P.ended ends [] x.which k),
  rw (e, get_or-append P.ended ends [] x.which k) c,
)

-- the passage behind a turn that stores a pc: of step i, or of a finish
abbrev pub named : Passage → ℕ → Passage
named c i = let y = turned c c.now in passage y.ends (naming i y.now) y.spans

abbrev pub finished : Passage → Passage
finished c = let y = turned c c.now in passage (suc y.ends) (finishing y.ends y.now) y.spans

module _ (pc count : ℕ) (code : Code) (P : Paths) (mine : List Given) (j : ℕ) (last : Given) where
  -- ---- a jump

  pub jumps-paced :
      (e : ℕ) (x : Now) (xs : List Span) (s i k : ℕ) → pc % 2 ^ 63 ≡ suc s → s < i → i < k → Anchored pc count code P mine (passage e x xs)
      → Paced pc count code P mine j last (on i 0) x → Paced pc count code P mine (suc j) last (on k 0) (turned (passage e x xs) x).now
  jumps-paced e nowhere xs s i k n l m a q = absurd (on-not-idle i 0 q)
  jumps-paced e (fresh g u) xs s i k n l m a q = let o = a.at.none in absurd (omega arith)
  jumps-paced e (going g b r u) xs s i k n l m a (f, v, q, h) =
      let o = a.at.named in
      let (w, z) = same_step q in
      let here : u + 0 ≡ needed (code_of g.code) b P.under + j + v = rw (ne_eqb f r (λ y. omega arith)) at h in
      (k, 0, refl, rw (ne_eqb k r (λ y. omega arith)) (omega arith))
  jumps-paced e (closing y g b u) xs s i k n l m a q = let o = a.at.0.none in absurd (omega arith)

  -- ---- a section's first step: the section last taken is begun

  module _ (pc' : ℕ) (P' : Paths) (some : 0 < count) (acquires : is_logged (op_of (code 0)) ≡ true) (step : pc' % 2 ^ 63 ≡ 1) (grows : P' ≡ longer P (0 ∷ []))
      (coded : (i : ℕ) → i < count → get_or last.code i 0 ≡ code i) where
    begun-anchored :
        (e : ℕ) (g : Given) (t : ℕ) (xs : List Span) → last ≡ g → Anchored pc count code P mine (passage e (fresh g t) xs)
        → Anchored pc' count code P' (mine ++ (last ∷ [])) (passage e (going g first 0 (suc t)) xs)
    begun-anchored e g t xs m a =
        let u = a.at.under in
        record {
          ends = a.ends ∙ ap (λ (Q : Paths). length Q.ended) (sym grows);
          at =
              record {
                named = step;
                coded = λ i l. rw (← m) (coded i l);
                before = [];
                under = rw (grows, u);
                rising = tt;
                logs = rw (← m, coded 0 some) acquires;
                starts = tt;
                size = rw (length-append mine (last ∷ []), a.at.size) (omega arith);
                which = get_or_at mine last [] nothing e a.at.size ∙ m;
              };
          spans = all_map (Accords P mine) (Accords P' (mine ++ (last ∷ []))) xs
              (accords-more P P' mine (last ∷ []) [] (ap (λ (Q : Paths). Q.ended) grows ∙ sym (append-nil P.ended))) a.spans;
        }

    pub begins-anchored :
        (e : ℕ) (x : Now) (xs : List Span) → pc ≡ 0 → Anchored pc count code P mine (passage e x xs) → Paced pc count code P mine j last (on 0 4) x
        → Anchored pc' count code P' (mine ++ (last ∷ [])) (named (passage e x xs) 0)
    begins-anchored e nowhere xs z a q = absurd (on-not-idle 0 4 q)
    begins-anchored e (fresh g t) xs z a (q, m) = begun-anchored e g t xs m a
    begins-anchored e (going g b s t) xs z a q = let o = a.at.named in absurd (omega arith)
    begins-anchored e (closing k g b t) xs z a (i, q, o) = let (f, h) = same_step q in absurd (omega arith)

    pub begins-paced :
        (e : ℕ) (x : Now) (xs : List Span) → pc ≡ 0 → Anchored pc count code P mine (passage e x xs) → Paced pc count code P mine j last (on 0 4) x
        → Paced pc' count code P' (mine ++ (last ∷ [])) 0 last (on 0 5) (named (passage e x xs) 0).now
    begins-paced e nowhere xs z a q = absurd (on-not-idle 0 4 q)
    begins-paced e (fresh g t) xs z a (q, m) =
        let (f, h) = same_step q in
        let u : P'.under ≡ 0 ∷ [] = rw (grows, a.at.under) in
        let w : turns_of (get_or g.code 0 0) ≡ turns_of (code 0) = ap turns_of (rw (← m) (coded 0 some)) in
        (0, 5, refl, rw (u, along_one (code_of g.code) 0) (omega arith))
    begins-paced e (going g b s t) xs z a q = let o = a.at.named in absurd (omega arith)
    begins-paced e (closing k g b t) xs z a (i, q, o) = let (f, h) = same_step q in absurd (omega arith)

  -- ---- a later step i, to which jumps lead from behind the named step s

  -- what the store adds to the path, whatever words stand for the instructions
  abbrev pub Adds : Paths → ℕ → ℕ → (List ℕ → Paths) → Type 0
  Adds P' s i to =
      (words : Code) → ((k : ℕ) → k < count → words k ≡ code k)
      → (steps : List ℕ) × (P' ≡ to steps) × (turns_along words steps ≡ j) × All (FromTo (suc s) i) steps

  module _ (pc' : ℕ) (P' : Paths) (s i t : ℕ) (was : pc % 2 ^ 63 ≡ suc s) (up : s < i) (below : i < count) where
    -- the path up to step i
    path-turns :
        (g : Given) (b : Start) (e : ℕ) (steps : List ℕ) → Going pc count code P mine g b s e → turns_along (code_of g.code) steps ≡ j
        → needed (code_of g.code) b ((P.under ++ steps) ++ (i ∷ [])) ≡ needed (code_of g.code) b P.under + j + turns_of (code i)
    path-turns g b e steps G sum =
        let words = code_of g.code in
        let w : turns_of (words i) ≡ turns_of (code i) = ap turns_of (G.coded i below) in
        rw (
          needed-more words b (P.under ++ steps) (i ∷ []) (starts_more words b P.under steps G.starts),
          needed-more words b P.under steps G.starts,
          along_one words i,
          sum,
          w,
        )

    -- all of it but its last step is before that
    path-rises :
        (g : Given) (b : Start) (e : ℕ) (steps : List ℕ) → Going pc count code P mine g b s e → All (FromTo (suc s) i) steps
        → All (λ k. k < i) (P.under ++ steps)
    path-rises g b e steps G ins =
        rw G.under
        (all_append (λ k. k < i) (G.before ++ (s ∷ [])) steps
        (all_append (λ k. k < i) G.before (s ∷ []) (all_map (λ k. k < s) (λ k. k < i) G.before (λ k l. omega arith) G.rising) (up, tt))
        (all_map (FromTo (suc s) i) (λ k. k < i) steps (λ k q. q.1) ins))

    -- the cursor is on step i, so the pc's step is done
    done-paced :
        (g : Given) (b : Start) (u e : ℕ) → Paced pc count code P mine j last (on i t) (going g b s u)
        → u ≡ needed (code_of g.code) b P.under + j + t
    done-paced g b u e (f, v, q, h) =
        let (w, z) = same_step q in
        let here : u + 0 ≡ needed (code_of g.code) b P.under + j + v = rw (ne_eqb f s (λ y. omega arith)) at h in
        omega arith

    path-starts :
        (g : Given) (b : Start) (steps : List ℕ) → StartsOn (code_of g.code) b P.under
        → StartsOn (code_of g.code) b ((P.under ++ steps) ++ (i ∷ []))
    path-starts g b steps c =
        starts_more (code_of g.code) b (P.under ++ steps) (i ∷ []) (starts_more (code_of g.code) b P.under steps c)

    module _ (is : pc' % 2 ^ 63 ≡ suc i) (logged : is_logged (op_of (code i)) ≡ true) (adds : Adds P' s i (λ steps. longer (longer P steps) (i ∷ []))) where
      named-going :
          (e : ℕ) (g : Given) (b : Start) (u : ℕ) (xs : List Span) → Anchored pc count code P mine (passage e (going g b s u) xs)
          → Paced pc count code P mine j last (on i t) (going g b s u)
          → Anchored pc' count code P' mine (passage e (going g b i (suc u)) xs) × Paced pc' count code P' mine 0 last (on i (t + 1)) (going g b i (suc u))
      named-going e g b u xs a q =
          let G = a.at in
          let (steps, p, sum, ins) = adds (code_of g.code) G.coded in
          let now : P'.under ≡ (P.under ++ steps) ++ (i ∷ []) = ap (λ (Q : Paths). Q.under) p in
          let past : P'.ended ≡ P.ended = ap (λ (Q : Paths). Q.ended) p in
          let made = done-paced g b u e q in
          let grown = path-turns g b e steps G sum in (
            record {
              ends = a.ends ∙ ap length (sym past);
              at =
                  record {
                    named = is;
                    coded = G.coded;
                    before = P.under ++ steps;
                    under = now;
                    rising = path-rises g b e steps G ins;
                    logs = rw (G.coded i below) logged;
                    starts = rw now (path-starts g b steps G.starts);
                    size = G.size;
                    which = G.which;
                  };
              spans = all_map (Accords P mine) (Accords P' mine) xs (accords-same P P' mine [] (past ∙ sym (append-nil P.ended))) a.spans;
            },
            (i, t + 1, refl, rw (eq-eqb i i refl, now) (omega arith)),
          )

      pub names-on :
          (e : ℕ) (x : Now) (xs : List Span) → Anchored pc count code P mine (passage e x xs) → Paced pc count code P mine j last (on i t) x
          → Anchored pc' count code P' mine (named (passage e x xs) i) × Paced pc' count code P' mine 0 last (on i (t + 1)) (named (passage e x xs) i).now
      names-on e nowhere xs a q = absurd (on-not-idle i t q)
      names-on e (fresh g u) xs a q = let o = a.at.none in absurd (omega arith)
      names-on e (going g b r u) xs a q =
          let o = a.at.named in
          let same : r ≡ s = omega arith in
          named-going e g b u xs (rw same at a) (rw same at q)
      names-on e (closing k g b u) xs a q = let o = a.at.0.none in absurd (omega arith)

    -- ---- its finish

    module _ (at-end : t ≡ 1) (finish : op_of (code i) ≡ Finish) (is : pc' ≡ 0)
        (adds : Adds P' s i (λ steps. paths (P.ended ++ (((P.under ++ steps) ++ (i ∷ [])) ∷ [])) [])) where
      finished-going :
          (e : ℕ) (g : Given) (b : Start) (u : ℕ) (xs : List Span) → Anchored pc count code P mine (passage e (going g b s u) xs)
          → Paced pc count code P mine j last (on i t) (going g b s u) → Anchored pc' count code P' mine (passage (suc e) (closing e g b (suc u)) xs)
      finished-going e g b u xs a q =
          let G = a.at in
          let (steps, p, sum, ins) = adds (code_of g.code) G.coded in
          let path = (P.under ++ steps) ++ (i ∷ []) in
          let past : P'.ended ≡ P.ended ++ (path ∷ []) = ap (λ (Q : Paths). Q.ended) p in
          let more : length P'.ended ≡ suc e = rw (past, length-append P.ended (path ∷ []), ← a.ends) (omega arith) in
          let its : get_or P'.ended e [] ≡ path = rw past (get_or_at P.ended path [] [] e (sym a.ends)) in
          let three : turns_of (code i) ≡ 3 = turns-op (code i) Finish finish in
          let made = done-paced g b u e q in
          let grown = path-turns g b e steps G sum in
          let z = G.size in
          record {
            ends = sym more;
            at = (
              record { none = is; under = ap (λ (Q : Paths). Q.under) p; size = G.size },
              (omega arith, G.which, omega arith, rw its (omega arith), rw its (path-starts g b steps G.starts)),
            );
            spans = all_map (Accords P mine) (Accords P' mine) xs (accords-same P P' mine (path ∷ []) past) a.spans;
          }

      pub finishes-on :
          (e : ℕ) (x : Now) (xs : List Span) → Anchored pc count code P mine (passage e x xs) → Paced pc count code P mine j last (on i t) x
          → Anchored pc' count code P' mine (finished (passage e x xs)) × Paced pc' count code P' mine 0 last (on i 2) (finished (passage e x xs)).now
      finishes-on e nowhere xs a q = absurd (on-not-idle i t q)
      finishes-on e (fresh g u) xs a q = let o = a.at.none in absurd (omega arith)
      finishes-on e (going g b r u) xs a q =
          let o = a.at.named in
          let same : r ≡ s = omega arith in
          (finished-going e g b u xs (rw same at a) (rw same at q), (i, refl, finish))
      finishes-on e (closing k g b u) xs a q = let o = a.at.0.none in absurd (omega arith)

-- ---- no section under way

-- with nothing begun the record's section does not matter
module _ (pc count count' : ℕ) (code code' : Code) (P : Paths) (mine : List Given) (z : pc ≡ 0) where
  off_at : (e : ℕ) (x : Now) (xs : List Span) → Anchored pc count code P mine (passage e x xs) → Off pc count' code' P mine e
  off_at e nowhere xs a = record { none = a.at.none; under = a.at.under; size = a.at.size }
  off_at e (fresh g t) xs a = record { none = a.at.none; under = a.at.under; size = a.at.size }
  off_at e (going g b s t) xs a = let o = a.at.named in absurd (omega arith)
  off_at e (closing k g b t) xs a = record { none = a.at.0.none; under = a.at.0.under; size = a.at.0.size }

  pub off-same :
      (e : ℕ) (x : Now) (xs : List Span) → Anchored pc count code P mine (passage e x xs) → Anchored pc count' code' P mine (passage e x xs)
  off-same e nowhere xs a = record { ends = a.ends; at = off_at e nowhere xs a; spans = a.spans }
  off-same e (fresh g t) xs a = record { ends = a.ends; at = off_at e (fresh g t) xs a; spans = a.spans }
  off-same e (going g b s t) xs a = let o = a.at.named in absurd (omega arith)
  off-same e (closing k g b t) xs a = record { ends = a.ends; at = (off_at e (closing k g b t) xs a, a.at.1); spans = a.spans }

  -- a section is taken
  pub taken-anchored :
      (e : ℕ) (x : Now) (xs : List Span) (g : Given) → Anchored pc count code P mine (passage e x xs)
      → Anchored pc count' code' P mine (passage e (fresh g 0) xs)
  taken-anchored e x xs g a = record { ends = a.ends; at = off_at e x xs a; spans = a.spans }

  -- the last turn of a finish
  pub ends_on :
      (e : ℕ) (x : Now) (xs : List Span) (j : ℕ) (last : Given) (i : ℕ) → 0 < i → Anchored pc count code P mine (passage e x xs)
      → Paced pc count code P mine j last (on i 2) x
      → Anchored pc count' code' P mine (turned (passage e x xs) x) × Paced pc count' code' P mine j last idle (turned (passage e x xs) x).now
  ends_on e nowhere xs j last i l a q = absurd (on-not-idle i 2 q)
  ends_on e (fresh g t) xs j last i l a (q, m) = let (f, h) = same_step q in absurd (omega arith)
  ends_on e (going g b s t) xs j last i l a q = let o = a.at.named in absurd (omega arith)
  ends_on e (closing k g b t) xs j last i l a q = (
    record {
      ends = a.ends;
      at = off_at e (closing k g b t) xs a;
      spans = all_append (Accords P mine) xs (span k g b (suc t) ∷ []) a.spans (a.at.1, tt);
    },
    refl,
  )

-- ---- a loss

module _ (pc count : ℕ) (code : Code) (P : Paths) (mine : List Given) where
  pub lost-anchored :
      (e : ℕ) (x : Now) (xs : List Span) → Anchored pc count code P mine (passage e x xs) → Anchored pc count code P mine (passage e (losing x) xs)
  lost-anchored e nowhere xs a = a
  lost-anchored e (fresh g t) xs a = record { ends = a.ends; at = a.at; spans = a.spans }
  lost-anchored e (going g b s t) xs a =
      let G = a.at in
      record {
        ends = a.ends;
        at =
            record {
              named = G.named;
              coded = G.coded;
              before = G.before;
              under = G.under;
              rising = G.rising;
              logs = G.logs;
              starts = rw G.under (starts-last (code_of g.code) s G.before G.logs);
              size = G.size;
              which = G.which;
            };
        spans = a.spans;
      }
  lost-anchored e (closing k g b t) xs a = record { ends = a.ends; at = a.at.0; spans = a.spans }

  -- a recovery resumes the worker at the target store of the named step, where it is to have so many turns
  pub lost-paced :
      (e : ℕ) (x : Now) (xs : List Span) (last : Given) (c : Cursor) (u : ℕ) → Anchored pc count code P mine (passage e x xs) → (pc ≡ 0 → c ≡ idle)
      → ((s : ℕ) → pc % 2 ^ 63 ≡ suc s → (s < count) × (c ≡ on s u) × (turns_of (code s) ≡ resumed_turns (op_of (code s)) + u))
      → Paced pc count code P mine 0 last c (losing x)
  lost-paced e nowhere xs last c u a z f = z a.at.none
  lost-paced e (fresh g t) xs last c u a z f = z a.at.none
  lost-paced e (going g b s t) xs last c u a z f =
      let G = a.at in
      let (l, q, h) = f s G.named in
      let w : get_or g.code s 0 ≡ code s = G.coded s l in
      (s, u, q, rw (eq-eqb s s refl, G.under, after_last s G.before G.rising, w, along-end (code_of g.code)) (omega arith))
  lost-paced e (closing k g b t) xs last c u a z f = z a.at.0.none
