-- Runs come to their end: with as many stores left as the ranks of all workers sum up to, a world goes on running, each round
-- in which a worker is open lowers the sum, and so as many rounds as the sum leave every worker idle.
use Prim.Native.Nat.{ℕ, suc, zero, ◌+◌, ◌<◌, ◌≤◌}
use mathlib.Core.Path.{◌≡◌, refl, ap, subst, ◌∙◌, sym}
use mathlib.Core.Logic.{◌⊎◌, inl, inr, ⊎_elim}
use mathlib.Core.Bool.{Bool, true, false, cond, true≢false, false≢true}
use mathlib.Core.List.{List, [], ◌∷◌}
use native.Mathlib.Omega.{arith}
use native.Mathlib.Decide.{dec_lt, ℕ_discrete}
use Rattle.image.specs.Place.{Memory}
use Rattle.image.specs.Inner.Same.{upd}
use Rattle.image.specs.Image.{at}
use Rattle.working.specs.declared.Cursors.{Cursors}
use Rattle.working.specs.Cursor.{Cursor, is_idle, cursor_at, holding, placed}
use Rattle.plan.specs.Turn.{Outcome, stored, passed, waiting, resting, refused, turn_at}
use Rattle.turn.specs.Call.{outcome_at}
use Rattle.run.specs.Run.{any_open}
use Rattle.working.proofs.Placed.{sayable, held-cursor}
use Rattle.claims.specs.Reference.{Given}
use Rattle.claims.specs.Events.{waited, but}
use Rattle.claims.specs.Calls.{Traced, turn_by, turned_at, refuses, round, rounds}
use Rattle.claims.proofs.Invariant.{Live}
use Rattle.claims.proofs.Turns.{Stepped, Went}
use Rattle.claims.proofs.LiveTurn.{live-turn, but_same}
use Rattle.claims.proofs.OwnTurn.{own_turn}
use Rattle.claims.proofs.AtStore.{memory-store}
use Rattle.claims.proofs.Rank.{rank}
use Rattle.claims.proofs.Progress.{total-same, rank_sum, SumFalls, sum-falls, is_moving, progress, open-moves}
use Rattle.claims.proofs.Worlds.{Running, running-sized, few, touches-valid, phase-sayable}
use Rattle.claims.proofs.Turning.{running-turned, turned_left}
use Rattle.claims.proofs.Cursors.{cursors-placed}
use Rattle.claims.proofs.Moves.{Noted, noted-none}

-- the ranks of all workers
unfoldable pub sum : ℕ → ℕ → Traced → ℕ
sum n D w = rank_sum n (at n w.world.image) (cursor_at w.world.cursors) D

-- the sum looks at the workers' cursors alone
sum-cursors : (n D : ℕ) (rd : Memory) (c c' : ℕ → Cursor) → ((e : ℕ) → e < D → c e ≡ c' e) → rank_sum n rd c D ≡ rank_sum n rd c' D
unfolding rank_sum
sum-cursors n D rd c c' h = total-same _ _ D (λ e l. ap (rank n rd e) (h e l))

some-rank : (n D : ℕ) (rd : Memory) (cursor : ℕ → Cursor) (d : ℕ) (o : Outcome) → is_moving o ≡ true → SumFalls n D rd cursor d o → 0 < rank_sum n rd cursor D
some-rank n D rd cursor d (stored p v c) m f = omega arith
some-rank n D rd cursor d (passed why c) m f = omega arith
some-rank n D rd cursor d (waiting b) m f = absurd (false≢true m)
some-rank n D rd cursor d resting m f = absurd (false≢true m)
some-rank n D rd cursor d (refused x) m f = absurd (false≢true m)

module _ (mark n D : ℕ) (cells : List ℕ) where
  running-noted : (w v : Traced) → Noted w v → Running mark n D cells w → Running mark n D cells v
  running-noted w v (es, e) r = rw e (record { reached = r.reached; full = r.full; locks = r.locks; live = r.live })

  sum-noted : (w v : Traced) → Noted w v → sum n D v ≡ sum n D w
  unfolding sum
  sum-noted w v (es, e) = rw e

  moves-noted : (e : ℕ) (w v : Traced) → Noted w v → is_moving (turn_at n (at n w.world.image) e (cursor_at w.world.cursors e)) ≡ true
      → is_moving (turn_at n (at n v.world.image) e (cursor_at v.world.cursors e)) ≡ true
  moves-noted e w v (es, q) m = rw q m

  -- running, with a store for each turn that any worker has to go
  pub record Spare (w : Traced) : Type 0 where
    pub running : Running mark n D cells w
    pub stores : sum n D w ≤ w.world.left

  pub spare-noted : (w v : Traced) → Noted w v → Spare w → Spare v
  spare-noted w v x s =
      record { running = running-noted w v x s.running; stores = let e = x.1 in rw (sum-noted w v x, e) s.stores }

  module _ (w : Traced) (d : ℕ) (r : Running mark n D cells w) (dl : d < D) where
    abbrev rd : Memory
    rd = at n w.world.image

    abbrev turn : Outcome
    turn = turn_at n rd d (cursor_at w.world.cursors d)

    pub steps : Stepped n rd d (w.trace.last d) (r.locks d) (w.trace.jumps d) turn
    steps =
        own_turn n rd d (w.trace.last d) (cursor_at w.world.cursors d) (r.locks d) (w.trace.jumps d) (r.live.phase d dl)
        (λ b l h. r.live.locked b d l dl h)
        (λ b l h. (r.live.owner b d l h).1)

    -- the sum after worker d's cursor was placed
    placed-sum :
        (rd' : Memory) (c : Cursor) (locks jumps : ℕ → ℕ) (last : ℕ → Given) → Live n D rd' (but (cursor_at w.world.cursors) d c) locks jumps last
        → rank_sum n rd' (cursor_at (placed w.world.cursors d c)) D ≡ rank_sum n rd' (but (cursor_at w.world.cursors) d c) D
    placed-sum rd' c locks jumps last L =
        let say = subst (λ (x : Cursor). sayable x) (but_same (cursor_at w.world.cursors) d c)
        (phase-sayable n rd' d (last d) _ (locks d) (jumps d) (L.phase d dl)) in
        sum-cursors n D rd' _ _ (λ e l. sym (cursors-placed D w.world.cursors d c r.full (few mark n D cells w r.reached) dl say e l))

    held-sum : (rd' : Memory) (h : ℕ) (c : Cursors) → rank_sum n rd' (cursor_at (holding h c)) D ≡ rank_sum n rd' (cursor_at c) D
    held-sum rd' h c = sum-cursors n D rd' _ _ (λ e l. held-cursor h c e)

    -- a turn that moves lowers the sum
    moved : (o : Outcome) → turn ≡ o → Went n D rd (cursor_at w.world.cursors) r.locks w.trace.jumps w.trace.last d o → 0 < w.world.left
        → is_moving o ≡ true → sum n D (turn_by mark n w d o) < sum n D w
    unfolding sum
    moved (stored p v c) e g left m =
        let q = memory-store n D w.world.image (running-sized mark n D cells w r.reached) w.world.left p v
        (touches-valid n D rd d (r.locks d) p v g.0 dl g.1) left in
        let f = sum-falls n D rd (cursor_at w.world.cursors) r.locks w.trace.jumps w.trace.last d (stored p v c) dl e g in
        rw (q, held-sum (upd rd p v) _ (placed w.world.cursors d c), placed-sum (upd rd p v) c _ _ _ g.2) f
    moved (passed why c) e g left m =
        rw (placed-sum rd c _ _ _ g) (sum-falls n D rd (cursor_at w.world.cursors) r.locks w.trace.jumps w.trace.last d (passed why c) dl e g)
    moved (waiting b) e g left m = absurd (false≢true m)
    moved resting e g left m = absurd (false≢true m)
    moved (refused x) e g left m = absurd (false≢true m)

    -- one that does not leaves an event at most
    stays : (o : Outcome) → is_moving o ≡ false → Noted w (turn_by mark n w d o)
    stays (stored p v c) m = absurd (true≢false m)
    stays (passed why c) m = absurd (true≢false m)
    stays (waiting b) m = (waited d b ∷ [], refl)
    stays resting m = noted-none w
    stays (refused x) m = noted-none w

    went : Went n D rd (cursor_at w.world.cursors) r.locks w.trace.jumps w.trace.last d turn
    went = live-turn n D rd (cursor_at w.world.cursors) r.locks w.trace.jumps w.trace.last d turn r.live dl steps

    moving-turn : 0 < w.world.left → is_moving turn ≡ true → sum n D (turned_at mark n w d) < sum n D w
    unfolding turned_at outcome_at
    moving-turn left m = moved turn refl went left m

    still-turn : is_moving turn ≡ false → Noted w (turned_at mark n w d)
    unfolding turned_at outcome_at
    still-turn m = stays turn m

  -- ---- a turn, with a store for each rank

  -- what a turn of worker d comes to: it lowers the sum, or nothing changes but the events
  pub record Turn (w : Traced) (d : ℕ) : Type 0 where
    pub spare : Spare (turned_at mark n w d)
    pub falls : is_moving (turn_at n (at n w.world.image) d (cursor_at w.world.cursors d)) ≡ true → sum n D (turned_at mark n w d) < sum n D w
    pub same : is_moving (turn_at n (at n w.world.image) d (cursor_at w.world.cursors d)) ≡ false → Noted w (turned_at mark n w d)

  -- a worker that moves has a rank, so a store is left for it
  no-rank : (w : Traced) (d : ℕ) (s : Spare w) (dl : d < D) → is_moving (turn w d s.running dl) ≡ true → ¬◌ (0 < w.world.left) → ⊥
  unfolding sum
  no-rank w d s dl m l =
      let r = s.running in
      let p =
      some-rank n D (rd w d r dl) (cursor_at w.world.cursors) d (turn w d r dl) m
      (sum-falls n D (rd w d r dl) (cursor_at w.world.cursors) r.locks w.trace.jumps w.trace.last d (turn w d r dl) dl refl (went w d r dl))
      in
      let k = s.stores in
      l (omega arith)

  pub spare-turn : (w : Traced) (d : ℕ) → Spare w → d < D → Turn w d
  spare-turn w d s dl = by (is_moving (turn w d s.running dl)) refl (dec_lt 0 w.world.left)
    where
      by : (b : Bool) → is_moving (turn w d s.running dl) ≡ b → Dec (0 < w.world.left) → Turn w d
      by true m (yes l) =
          let f = moving-turn w d s.running dl l m in
          let t = turned_left mark n D cells w d in
          let k = s.stores in
          record {
            spare = record { running = running-turned mark n D cells w d dl l s.running; stores = omega arith };
            falls = λ x. f;
            same = λ x. absurd
                (true≢false (sym m ∙ x));
          }
      by true m (no l) = absurd (no-rank w d s dl m l)
      by false m l =
          let e = still-turn w d s.running dl m in
          record { spare = spare-noted w (turned_at mark n w d) e s; falls = λ x. absurd (true≢false (sym x ∙ m)); same = λ x. e }

  -- ---- a round

  -- the turns of k workers from d on, none of them refused
  swept : ℕ → ℕ → Traced → Traced
  swept zero d w = w
  swept (suc k) d w = swept k (d + 1) (turned_at mark n w d)

  pub never-refused : (w : Traced) (d : ℕ) → Running mark n D cells w → d < D → refuses mark n (outcome_at n w.world d) ≡ false
  unfolding outcome_at
  never-refused w d r dl = by (turn w d r dl) (steps w d r dl)
    where
      by : (o : Outcome) → Stepped n (rd w d r dl) d (w.trace.last d) (r.locks d) (w.trace.jumps d) o → refuses mark n o ≡ false
      by (stored p v c) s = refl
      by (passed why c) s = refl
      by (waiting b) s = refl
      by resting s = refl
      by (refused x) s = absurd s

  spare-swept : (k d : ℕ) (w : Traced) → d + k ≤ D → Spare w → Spare (swept k d w)
  unfolding swept
  spare-swept zero d w l s = s
  spare-swept (suc k) d w l s = spare-swept k (d + 1) (turned_at mark n w d) (omega arith) (spare-turn w d s (omega arith)).spare

  -- a round is its turns
  round-swept : (rest : Traced → Traced) (k d : ℕ) (w : Traced) → d + k ≤ D → Spare w → round mark n rest w d k ≡ rest (swept k d w)
  unfolding round swept
  round-swept rest zero d w l s = refl
  round-swept rest (suc k) d w l s =
      rw (never-refused w d s.running (omega arith)) (round-swept rest k (d + 1) (turned_at mark n w d) (omega arith) (spare-turn w d s (omega arith)).spare)

  pub sum-turn : (w : Traced) (d : ℕ) → Turn w d → sum n D (turned_at mark n w d) ≤ sum n D w
  sum-turn w d t = by (is_moving (turn_at n (at n w.world.image) d (cursor_at w.world.cursors d))) refl
    where
      by : (b : Bool) → is_moving (turn_at n (at n w.world.image) d (cursor_at w.world.cursors d)) ≡ b → sum n D (turned_at mark n w d) ≤ sum n D w
      by true m = let f = t.falls m in omega arith
      by false m = rw (sum-noted w (turned_at mark n w d) (t.same m)) (omega arith)

  -- the sum never rises
  sum-swept : (k d : ℕ) (w : Traced) → d + k ≤ D → Spare w → sum n D (swept k d w) ≤ sum n D w
  unfolding swept
  sum-swept zero d w l s = omega arith
  sum-swept (suc k) d w l s =
      let t = spare-turn w d s (omega arith) in
      let a = sum-swept k (d + 1) (turned_at mark n w d) (omega arith) t.spare in
      let b = sum-turn w d t in
      omega arith

  -- and where one of the workers would move, it falls
  sum-falls-swept :
      (k d : ℕ) (w : Traced) → d + k ≤ D → Spare w → (e : ℕ) → d ≤ e → e < d + k → is_moving
      (turn_at n (at n w.world.image) e (cursor_at w.world.cursors e)) ≡ true
      → sum n D (swept k d w) < sum n D w
  unfolding swept
  sum-falls-swept zero d w l s e x y m = absurd (omega arith)
  sum-falls-swept (suc k) d w l s e x y m =
      by (λ g q. sum-falls-swept k (d + 1) (turned_at mark n w d) (omega arith) t.spare e g (omega arith) (moves-noted e w (turned_at mark n w d) q m))
      (is_moving (turn_at n (at n w.world.image) d (cursor_at w.world.cursors d))) refl (ℕ_discrete e d)
    where
      t : Turn w d
      t = spare-turn w d s (omega arith)

      by : (d + 1 ≤ e → Noted w (turned_at mark n w d) → sum n D (swept k (d + 1) (turned_at mark n w d)) < sum n D (turned_at mark n w d)) → (b : Bool)
          → is_moving (turn_at n (at n w.world.image) d (cursor_at w.world.cursors d)) ≡ b → Dec (e ≡ d) → sum n D (swept k (d + 1) (turned_at mark n w d))
          < sum n D w
      by more true q i = let a = sum-swept k (d + 1) (turned_at mark n w d) (omega arith) t.spare in let f = t.falls q in omega arith
      by more false q (yes i) =
          absurd (true≢false (sym m ∙ (ap (λ (z : ℕ). is_moving (turn_at n (at n w.world.image) z (cursor_at w.world.cursors z))) i ∙ q)))
      by more false q (no i) = let a = more (omega arith) (t.same q) in let b = sum-noted w (turned_at mark n w d) (t.same q) in omega arith

  -- ---- a run

  -- an open worker: some worker moves
  open-some : (k d : ℕ) (w : Traced) → any_open k d w.world.cursors ≡ true
      → (e : ℕ) × (d ≤ e) × (e < d + k) × (is_idle (cursor_at w.world.cursors e) ≡ false)
  unfolding any_open
  open-some zero d w h = absurd (false≢true h)
  open-some (suc k) d w h = by (λ g. open-some k (d + 1) w g) (is_idle (cursor_at w.world.cursors d)) refl
    where
      by :
          (any_open k (d + 1) w.world.cursors ≡ true → (e : ℕ) × (d + 1 ≤ e) × (e < d + 1 + k) × (is_idle (cursor_at w.world.cursors e) ≡ false)) →
          (b : Bool)
          → is_idle (cursor_at w.world.cursors d) ≡ b → (e : ℕ) × (d ≤ e) × (e < d + suc k) × (is_idle (cursor_at w.world.cursors e) ≡ false)
      by more true q = let o = more (rw q at h) in (o.0, omega (arith, o.1), omega (arith, o.2), o.3)
      by more false q = (d, omega arith, omega arith, q)

  some-moves : (w : Traced) → Running mark n D cells w → any_open D 0 w.world.cursors ≡ true
      → (e : ℕ) × (e < D) × (is_moving (turn_at n (at n w.world.image) e (cursor_at w.world.cursors e)) ≡ true)
  some-moves w r h =
      let o = open-some D 0 w h in
      let p =
      progress n D (at n w.world.image) (cursor_at w.world.cursors) r.locks w.trace.jumps w.trace.last r.live (λ e l. steps w e r l) o.0
      (omega (arith, o.2)) o.3
      in (
        p.0,
        p.1,
        open-moves n (at n w.world.image) p.0 (w.trace.last p.0) (cursor_at w.world.cursors p.0) (r.locks p.0)
            (w.trace.jumps p.0) p.2 p.3 (steps w p.0 r p.1),
      )

  -- what a run of r rounds comes to: the sum is less by r, or nobody is open
  pub record Rounded (r : ℕ) (w v : Traced) : Type 0 where
    pub spare : Spare v
    pub gone : (sum n D v + r ≤ sum n D w) ⊎ (any_open D 0 v.world.cursors ≡ false)

  pub settles : (r : ℕ) (w : Traced) → Spare w → Rounded r w (rounds mark n r D w)
  unfolding rounds
  settles zero w s = record { spare = s; gone = inl (omega arith) }
  settles (suc r) w s = by (settles r (swept D 0 w) (spare-swept D 0 w (omega arith) s)) (any_open D 0 w.world.cursors) refl
    where
      further : sum n D (swept D 0 w) < sum n D w → Rounded r (swept D 0 w) (rounds mark n r D (swept D 0 w))
          → Rounded (suc r) w (rounds mark n r D (swept D 0 w))
      further f x = record { spare = x.spare; gone = ⊎_elim (λ g. inl (omega arith)) (λ g. inr g) x.gone }

      by : Rounded r (swept D 0 w) (rounds mark n r D (swept D 0 w)) → (b : Bool) → any_open D 0 w.world.cursors ≡ b
          → Rounded (suc r) w (cond (any_open D 0 w.world.cursors) (round mark n (rounds mark n r D) w 0 D) w)
      by x true q =
          let m = some-moves w s.running q in
          rw (q, round-swept (rounds mark n r D) D 0 w (omega arith) s)
          (further (sum-falls-swept D 0 w (omega arith) s m.0 (omega arith) (omega (arith, m.1)) m.2) x)
      by x false q = rw q (record { spare = s; gone = inr q })

  -- where no rank is left nobody is open
  pub no-rank-idle : (w : Traced) → Running mark n D cells w → sum n D w ≡ 0 → any_open D 0 w.world.cursors ≡ false
  unfolding sum
  no-rank-idle w r z = by (any_open D 0 w.world.cursors) refl
    where
      by : (b : Bool) → any_open D 0 w.world.cursors ≡ b → b ≡ false
      by false q = refl
      by true q =
          let m = some-moves w r q in
          let p =
          some-rank n D (rd w m.0 r m.1) (cursor_at w.world.cursors) m.0 (turn w m.0 r m.1) m.2
          (sum-falls n D (rd w m.0 r m.1) (cursor_at w.world.cursors) r.locks w.trace.jumps w.trace.last m.0 (turn w m.0 r m.1)
          m.1 refl (went w m.0 r m.1))
          in
          absurd (omega arith)
