-- A call given k leaves the image with the first k of its stores made (`cuts-are-prefixes`). A submission and a recovery make lists of stores; a turn makes
-- one or none; and the turns of a run given k are those of the uncut run until k stores are made, behind which no turn changes the image (`spent-round`).
use Prim.Native.Nat.{ℕ, zero, suc, ◌+◌, ◌*◌, ◌-◌, ◌^◌, ◌<◌, ◌≤◌}
use mathlib.Core.Path.{◌≡◌, refl, sym, ap, ◌∙◌}
use mathlib.Core.Bool.{Bool, true, false, cond, false≢true}
use mathlib.Core.List.{List, [], ◌∷◌, ◌++◌}
use native.Mathlib.Omega.{arith}
use native.Mathlib.Nat.{suc-mul}
use lib.ListN.{length, take, set, length-append, length-replicate}
use borrow.Author.Tests.{ltb-true, lt-ltb, ne_eqb}
use Rattle.std.specs.Prelude.{Ok, Err}
use Rattle.image.specs.Place.{Place, Store}
use Rattle.image.specs.Image.{Image, index_of, workers, header_ok, length_of, record_at, put, put_all}
use Rattle.image.proofs.Header.{header-workers}
use Rattle.image.proofs.Stores.{put-none, put_some, put-lots}
use Rattle.image.proofs.Lists.{put_all-none, put_all-nil, put_all-some}
use Rattle.rows.specs.Rows.{put_from}
use Rattle.formatting.specs.Format.{Formatted, form_tail, format_stores, format_answer, format_leaves, format_left}
use Rattle.intake.specs.Submit.{Submitted, free, submit_answer, submit_leaves}
use Rattle.working.specs.Cursor.{Cursor}
use Rattle.plan.specs.Turn.{Outcome, stored, passed, waiting, resting, refused}
use Rattle.turn.specs.Call.{outcome_at, outcome}
use Rattle.run.specs.Run.{any_open}
use Rattle.recovery.specs.Recovery.{Recovered, accepted, rejected, recovery}
use Rattle.recovery.specs.Recover.{stores_of}
use Rattle.claims.specs.Calls.{Traced, turn_by, turned_at, refuses, round, rounds, ran_by, recovered_by}
use Rattle.claims.specs.Calls.{Call, submits, turns, runs, recovers, call, lent, callable}
use Rattle.told.specs.Moments.{Moment, moment, in_round, in_rounds, in_call}
use Rattle.told.specs.Enough.{makes, EnoughIsWhole}
use Rattle.told.specs.Prefixes.{Word, made, store_by, submit_stores, words_from, words, turn_stores, call_stores, CutsArePrefixes}
use Rattle.told.specs.Prefixes.{format_words, FormatCutsArePrefixes}
use Rattle.told.proofs.Enough.{enough-is-whole}
use Rattle.told.proofs.RunTurns.{Headed, turn-headed}

-- ---- runs

module _ (mark n : ℕ) where
  -- with no store left a turn leaves the image, and none is left after it
  abbrev Spent : Traced → Image → Type 0
  Spent w m = (w.world.image ≡ m) × (w.world.left ≡ 0)

  spent-by : (w : Traced) (d : ℕ) (o : Outcome) (m : Image) → Spent w m → Spent (turn_by mark n w d o) m
  spent-by w d (stored p v c) m (i, z) = (rw (z, i) (put-none m (index_of n p) v), omega arith)
  spent-by w d (passed why c) m s = s
  spent-by w d (waiting b) m s = s
  spent-by w d resting m s = s
  spent-by w d (refused r) m s = s

  spent-turned : (w : Traced) (d : ℕ) (m : Image) → Spent w m → Spent (turned_at mark n w d) m
  unfolding turned_at
  spent-turned w d m s = spent-by w d (outcome_at n w.world d) m s

  spent-round :
      (rest : Traced → Traced) → ((w : Traced) (m : Image) → Spent w m → Spent (rest w) m) → (j d : ℕ) (w : Traced) (m : Image) → Spent w m
      → Spent (round mark n rest w d j) m
  unfolding round
  spent-round rest more zero d w m s = more w m s
  spent-round rest more (suc j) d w m s =
      by (refuses mark n (outcome_at n w.world d)) (spent-round rest more j (d + 1) (turned_at mark n w d) m (spent-turned w d m s))
    where
      by :
          (b : Bool) → Spent (round mark n rest (turned_at mark n w d) (d + 1) j) m
          → Spent (cond b w (round mark n rest (turned_at mark n w d) (d + 1) j)) m
      by true t = s
      by false t = t

  spent-rounds : (r D : ℕ) (w : Traced) (m : Image) → Spent w m → Spent (rounds mark n r D w) m
  unfolding rounds
  spent-rounds zero D w m s = s
  spent-rounds (suc r) D w m s = by (any_open D 0 w.world.cursors) (spent-round (rounds mark n r D) (spent-rounds r D) D 0 w m s)
    where
      by : (b : Bool) → Spent (round mark n (rounds mark n r D) w 0 D) m → Spent (cond b (round mark n (rounds mark n r D) w 0 D) w) m
      by true t = t
      by false t = s

  -- a world given k, from one with these stores to make
  record Cut (m : Image) (ss : List Store) (k : ℕ) (v : Traced) : Type 0 where
    image : v.world.image ≡ put_all n k m ss
    left : v.world.left ≡ k - length ss

  cut-nil : (w : Traced) (k : ℕ) → Cut w.world.image [] k (lent mark n k w)
  cut-nil w k = record { image = sym (put_all-nil n k w.world.image); left = omega arith }

  cut-spent : (m : Image) (ss : List Store) (v : Traced) → Spent v m → Cut m ss 0 v
  cut-spent m ss v (i, z) = record { image = i ∙ sym (put_all-none n m ss); left = omega arith }

  -- a store that is made leaves the same world whatever was lent
  store-lent :
      (w : Traced) (d : ℕ) (p : Place) (v : ℕ) (c : Cursor) (k : ℕ) → 0 < w.world.left
      → turn_by mark n (lent mark n (suc k) w) d (stored p v c) ≡ lent mark n k (turn_by mark n w d (stored p v c))
  store-lent w d p v c k l =
      let e : suc k - 1 ≡ k = omega arith in
      rw (
        ne_eqb w.world.left 0 (λ q. omega arith),
        ne_eqb (suc k) 0 (λ q. omega arith),
        put-lots w.world.left w.world.image (index_of n p) v l,
        put_some k w.world.image (index_of n p) v,
        e,
      )

  -- a turn, and what follows it: f is lent what the turn leaves
  turn-cut :
      (f : Traced → Traced) → ((v : Traced) (m : Image) → Spent v m → Spent (f v) m) → (w : Traced) (d : ℕ) (o : Outcome) → 0 < w.world.left
      → (ss : List Store) → ((k : ℕ) → Cut (turn_by mark n w d o).world.image ss k (f (lent mark n k (turn_by mark n w d o))))
      → (k : ℕ) → Cut w.world.image (store_by o ++ ss) k (f (turn_by mark n (lent mark n k w) d o))
  turn-cut f still w d (stored p v c) l ss h zero =
      cut-spent w.world.image _ _ (still _ w.world.image (put-none w.world.image (index_of n p) v, refl))
  turn-cut f still w d (stored p v c) l ss h (suc k) =
      let t = h k in
      let e : suc k - suc (length ss) ≡ k - length ss = omega arith in
      rw (store-lent w d p v c k l)
      (record {
        image =
            t.image
            ∙ (ap (λ (o : Image). put_all n k o ss) (put-lots w.world.left w.world.image (index_of n p) v l)
            ∙ sym (put_all-some n k w.world.image (record { place = p; value = v }) ss));
        left = t.left ∙ sym e;
      })
  turn-cut f still w d (passed why c) l ss h k = record { image = (h k).image; left = (h k).left }
  turn-cut f still w d (waiting b) l ss h k = record { image = (h k).image; left = (h k).left }
  turn-cut f still w d resting l ss h k = record { image = (h k).image; left = (h k).left }
  turn-cut f still w d (refused r) l ss h k = record { image = (h k).image; left = (h k).left }

  refused_none : (o : Outcome) → refuses mark n o ≡ true → store_by o ≡ []
  refused_none (stored p v c) h = absurd (false≢true h)
  refused_none (passed why c) h = refl
  refused_none (waiting b) h = refl
  refused_none resting h = refl
  refused_none (refused r) h = refl

  left_by : (w : Traced) (d : ℕ) (o : Outcome) → w.world.left ≤ suc (turn_by mark n w d o).world.left
  left_by w d (stored p v c) = omega arith
  left_by w d (passed why c) = omega arith
  left_by w d (waiting b) = omega arith
  left_by w d resting = omega arith
  left_by w d (refused r) = omega arith

  outcome-in : (D : ℕ) (w : Traced) (d : ℕ) → d < D → Headed mark n D w → outcome mark n w.world d ≡ outcome_at n w.world d
  unfolding outcome
  outcome-in D w d l h = rw (h.header, h.many, lt-ltb d D l)

  stores-cons : (t : Moment) (ts : List Moment) → turn_stores mark n (t ∷ ts) ≡ store_by (outcome mark n t.now.world t.worker) ++ turn_stores mark n ts
  unfolding turn_stores
  stores-cons t ts = refl

  stores-nil : turn_stores mark n [] ≡ []
  unfolding turn_stores
  stores-nil = refl

  -- what a function leaves of a world that lends it k, where its turns are these in a world that lends it at least a
  abbrev Follows : ℕ → ℕ → (Traced → Traced) → (Traced → List Moment) → Type 0
  Follows D a f ms =
      (w : Traced) → Headed mark n D w → a ≤ w.world.left → (k : ℕ) → Cut w.world.image (turn_stores mark n (ms w)) k (f (lent mark n k w))

  module _
      (D a : ℕ) (rest : Traced → Traced) (ms : Traced → List Moment) (still : (w : Traced) (m : Image) → Spent w m → Spent (rest w) m)
      (more : Follows D a rest ms) where
    round-cut : (j d : ℕ) → d + j ≤ D → Follows D (j + a) (λ (w : Traced). round mark n rest w d j) (λ (w : Traced). in_round mark n ms w d j)
    unfolding round in_round turned_at outcome_at
    round-cut zero d b w h l k = more w h (omega arith) k
    round-cut (suc j) d b w h l k =
        rw (stores-cons (moment w d) (cond (refuses mark n o) [] (in_round mark n ms (turn_by mark n w d o) (d + 1) j)), outcome-in D w d (omega arith) h)
        (by (λ v q left i. round-cut j (d + 1) (omega arith) v q left i) (refuses mark n o) refl)
      where
        o : Outcome
        o = outcome_at n w.world d

        by :
            Follows D (j + a) (λ (v : Traced). round mark n rest v (d + 1) j) (λ (v : Traced). in_round mark n ms v (d + 1) j)
            → (t : Bool) → refuses mark n o ≡ t
            → Cut w.world.image (store_by o ++ turn_stores mark n (cond t [] (in_round mark n ms (turn_by mark n w d o) (d + 1) j))) k
            (cond t (lent mark n k w) (round mark n rest (turn_by mark n (lent mark n k w) d o) (d + 1) j))
        by next true e = rw (refused_none o e, stores-nil) (cut-nil w k)
        by next false e =
            let left = left_by w d o in
            turn-cut (λ (v : Traced). round mark n rest v (d + 1) j) (λ v m s. spent-round rest still j (d + 1) v m s) w d o (omega arith)
            (turn_stores mark n (in_round mark n ms (turn_by mark n w d o) (d + 1) j))
            (next (turn_by mark n w d o) (turn-headed mark n D w d o h) (omega arith)) k

  rounds-cut : (D r : ℕ) → D ≤ 8 → Follows D (r * 8) (λ (w : Traced). rounds mark n r D w) (λ (w : Traced). in_rounds mark n r D w)
  unfolding rounds in_rounds
  rounds-cut D zero b w h l k = rw stores-nil (cut-nil w k)
  rounds-cut D (suc r) b w h l k =
      by (any_open D 0 w.world.cursors)
      (round-cut D (r * 8) (rounds mark n r D) (in_rounds mark n r D) (λ v m s. spent-rounds r D v m s) (rounds-cut D r b) D 0 (omega arith) w h
      (omega (arith, suc-mul r 8)) k)
    where
      by :
          (t : Bool)
          → Cut w.world.image (turn_stores mark n (in_round mark n (in_rounds mark n r D) w 0 D)) k (round mark n (rounds mark n r D) (lent mark n k w) 0 D)
          → Cut w.world.image (turn_stores mark n (cond t (in_round mark n (in_rounds mark n r D) w 0 D) [])) k
          (cond t (round mark n (rounds mark n r D) (lent mark n k w) 0 D) (lent mark n k w))
      by true c = c
      by false c = rw stores-nil (cut-nil w k)

  -- ---- every call

  run-cut :
      (r : ℕ) (w : Traced) → r * 8 ≤ w.world.left → (k : ℕ)
      → Cut w.world.image (turn_stores mark n (in_call mark n (runs r) w)) k (ran_by mark n (lent mark n k w) r)
  unfolding ran_by in_call
  run-cut r w l k = by (header_ok mark n w.world.image) refl
    where
      by :
          (b : Bool) → header_ok mark n w.world.image ≡ b
          → Cut w.world.image (turn_stores mark n (cond b (in_rounds mark n r (workers w.world.image) w) [])) k
          (cond b (rounds mark n r (workers w.world.image) (lent mark n k w)) (lent mark n k w))
      by true h =
          rounds-cut (workers w.world.image) r (header-workers mark n w.world.image h).1 w (record { header = h; many = refl }) l k
      by false h = rw stores-nil (cut-nil w k)

  one-cut : (w : Traced) (d : ℕ) (o : Outcome) → 0 < w.world.left → (k : ℕ) → Cut w.world.image (store_by o ++ []) k (turn_by mark n (lent mark n k w) d o)
  one-cut w d o l k = turn-cut (λ (v : Traced). v) (λ v m s. s) w d o l [] (λ i. cut-nil (turn_by mark n w d o) i) k

  submit-cut :
      (w : Traced) (d j : ℕ) (args ws : List ℕ) (a : Submitted) (k : ℕ)
      → ((submit_leaves n (lent mark n k w).world d j args ws a).image ≡ put_all n k w.world.image (submit_stores n d j args ws a))
      × ((submit_leaves n (lent mark n k w).world d j args ws a).left ≡ k - length (submit_stores n d j args ws a))
  submit-cut w d j args ws (Ok tt) k = (refl, refl)
  submit-cut w d j args ws (Err r) k = (sym (put_all-nil n k w.world.image), omega arith)

  recover-cut : (w : Traced) (x : Recovered) (k : ℕ) → Cut w.world.image (stores_of x) k (recovered_by mark n (lent mark n k w) x)
  recover-cut w (accepted ss cs) k = record { image = refl; left = refl }
  recover-cut w (rejected r) k = record { image = sym (put_all-nil n k w.world.image); left = omega arith }

  call-cut :
      (c : Call) (w : Traced) → callable c ≡ true → (k : ℕ)
      → Cut w.world.image (call_stores mark n c (lent mark n (2 ^ 64 - 1) w)) k (call mark n c (lent mark n k w))
  unfolding call outcome outcome_at in_call turn_stores submit_answer free
  call-cut (submits d j args ws) w h k =
      let s = submit-cut w d j args ws (submit_answer mark n w.world d j ws) k in
      record { image = s.0; left = s.1 }
  call-cut (turns d) w h k = one-cut (lent mark n (2 ^ 64 - 1) w) d (outcome mark n w.world d) (omega arith) k
  call-cut (runs r) w h k = let few = ltb-true r (2 ^ 16) h in run-cut r (lent mark n (2 ^ 64 - 1) w) (omega arith) k
  call-cut recovers w h k = recover-cut w (recovery mark n w.world.image) k

  words-length : (ss : List Store) → length (words mark n ss) ≡ length ss
  words-length [] = refl
  words-length (s ∷ ss) = ap suc (words-length ss)

  given-words : (k : ℕ) (m : Image) (ss : List Store) → put_all n k m ss ≡ made m (take k (words mark n ss))
  unfolding made
  given-words zero m ss = put_all-none n m ss
  given-words (suc k) m [] = put_all-nil n (suc k) m
  given-words (suc k) m (s ∷ ss) = put_all-some n k m s ss ∙ given-words k (set m (index_of n s.place) s.value) ss

  -- lent enough and as many as its stores more, the call leaves as many as its stores
  few-stores :
      EnoughIsWhole mark n → (c : Call) (w : Traced) → callable c ≡ true → length (call_stores mark n c (lent mark n (2 ^ 64 - 1) w)) ≤ 2 ^ 64 - 1
  unfolding EnoughIsWhole
  few-stores enough c w h =
      let s = length (call_stores mark n c (lent mark n (2 ^ 64 - 1) w)) in
      let k = makes mark n c w + s in
      let e = ap (λ (v : Traced). v.world.left) (enough c h w k (omega arith)) in
      let f = (call-cut c w h k).left in
      omega arith

pub cuts-are-prefixes : (mark n : ℕ) → 8 ≤ n → n ≤ 64 → CutsArePrefixes mark n
unfolding CutsArePrefixes
cuts-are-prefixes mark n wide narrow c h w k =
    let ss = call_stores mark n c (lent mark n (2 ^ 64 - 1) w) in
    let t = call-cut mark n c w h k in
    record {
      image = t.image ∙ given-words mark n k w.world.image ss;
      left = rw (words-length mark n ss) t.left;
      few = rw (words-length mark n ss) (few-stores mark n (enough-is-whole mark n wide narrow) c w h);
    }

-- ---- formatting

from-made : (k : ℕ) (m : Image) (i : ℕ) (vs : List ℕ) → put_from k m i vs ≡ made m (take k (words_from i vs))
unfolding made put_from words_from
from-made zero m i [] = refl
from-made zero m i (v ∷ vs) = ap (λ (o : Image). put_from 0 o (i + 1) vs) (put-none m i v) ∙ from-made zero m (i + 1) vs
from-made (suc k) m i [] = refl
from-made (suc k) m i (v ∷ vs) =
    let e : suc k - 1 ≡ k = omega arith in
    rw (put_some k m i v, e) (from-made k (set m i v) (i + 1) vs)

words-from-length : (i : ℕ) (vs : List ℕ) → length (words_from i vs) ≡ length vs
unfolding words_from
words-from-length i [] = refl
words-from-length i (v ∷ vs) = ap suc (words-from-length (i + 1) vs)

-- one more store behind those of a list
made-last : (k : ℕ) (m : Image) (ss : List Word) (i v : ℕ) → put (k - length ss) (made m (take k ss)) i v ≡ made m (take k (ss ++ ((i, v) ∷ [])))
unfolding made
made-last zero m ss i v =
    let e : 0 - length ss ≡ 0 = omega arith in
    rw e (put-none m i v)
made-last (suc zero) m [] i v = put_some 0 m i v
made-last (suc (suc k)) m [] i v = let e : suc (suc k) - 0 ≡ suc (suc k) = omega arith in rw e (put_some (suc k) m i v)
made-last (suc k) m (s ∷ ss) i v =
    let e : suc k - suc (length ss) ≡ k - length ss = omega arith in
    rw e (made-last k (set m s.0 s.1) ss i v)

-- as many words as the image has, and one more
long : (n D : ℕ) → 2 ≤ length_of n D
unfolding length_of record_at
long n D = omega arith

tail-length : (n D : ℕ) → length (form_tail n D) + 1 ≡ length_of n D
tail-length n D = let l = long n D in rw (length-replicate {A = ℕ} (length_of n D - 2) 0) (omega arith)

module _ (mark n : ℕ) where
  format-length : (D : ℕ) → length (format_words mark n D (Ok tt)) ≡ length_of n D + 1
  format-length D =
      let t = tail-length n D in
      rw (length-append (words_from 1 (form_tail n D)) ((0, mark) ∷ []), words-from-length 1 (form_tail n D)) (omega arith)

  format-made : (k : ℕ) (m : Image) (D : ℕ) → format_stores mark n k m D ≡ made m (take k (format_words mark n D (Ok tt)))
  unfolding format_stores made
  format-made zero m D =
      let e : 0 - length_of n D ≡ 0 = omega arith in
      rw (e, put-none m 0 0, from-made 0 m 1 (form_tail n D)) (put-none m 0 mark)
  format-made (suc k) m D =
      let t = tail-length n D in
      let f = words-from-length 1 (form_tail n D) in
      let e : suc k - length_of n D ≡ k - length (words_from 1 (form_tail n D)) = omega arith in
      let g : suc k - 1 ≡ k = omega arith in
      rw (e, g, put_some k m 0 0, from-made k (set m 0 0) 1 (form_tail n D)) (made-last k (set m 0 0) (words_from 1 (form_tail n D)) 0 mark)

  format-cut :
      (m : Image) (D k : ℕ) (a : Formatted)
      → (format_leaves mark n k m D a ≡ made m (take k (format_words mark n D a))) × (format_left n k D a ≡ k - length (format_words mark n D a))
  unfolding made
  format-cut m D k (Ok tt) = (format-made k m D, rw (format-length D) refl)
  format-cut m D zero (Err r) = (refl, omega arith)
  format-cut m D (suc k) (Err r) = (refl, omega arith)

pub format-cuts-are-prefixes : (mark n : ℕ) → FormatCutsArePrefixes mark n
unfolding FormatCutsArePrefixes
format-cuts-are-prefixes mark n m D k = format-cut mark n m D k (format_answer n m D)
