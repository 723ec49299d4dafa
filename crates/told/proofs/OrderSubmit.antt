-- An uncut submit of an idle worker's next section: it is taken, the record holds the section, and the world is level with the
-- same state of the reference machine, the section being under way instead of waiting.
use Prim.Native.Nat.{ℕ, ◌+◌, ◌-◌, ◌^◌, ◌<◌, ◌≤◌}
use mathlib.Core.Path.{◌≡◌, refl, ap, subst, ◌∙◌, sym}
use mathlib.Core.Logic.{inr}
use mathlib.Core.Bool.{true}
use mathlib.Core.List.{List, [], ◌∷◌, ◌++◌, map}
use lib.ListN.{length, get_or}
use lib.Seq.{set-get_or, take_all}
use borrow.Author.Tests.{lt-ltb, eq-eqb}
use native.Mathlib.Omega.{arith}
use Rattle.std.specs.Prelude.{Ok}
use Rattle.image.specs.declared.Field.TheVariants.{Count, Pc, Intent, Owned, Finished}
use Rattle.image.specs.Place.{field, Memory}
use Rattle.image.specs.Inner.Same.{upd_all}
use Rattle.image.specs.Image.{at, put_all}
use Rattle.image.proofs.Lists.{header-all, workers-all}
use Rattle.section.specs.Check.{code_of, check}
use Rattle.section.proofs.Held.{held-zero}
use Rattle.section.proofs.Facts.{passed-valid, check-cong, check-parts}
use Rattle.working.specs.Cursor.{Cursor, idle, on, cursor_at}
use Rattle.worklog.specs.Log.{code_in}
use Rattle.intake.specs.Submit.{submission, free, submit_answer}
use Rattle.working.proofs.Placed.{placed_same, placed-other}
use Rattle.intake.proofs.Submission.{submission-length, submission-valid}
use Rattle.claims.specs.Reference.{Job, State, state, Given, given, start}
use Rattle.claims.specs.Events.{but}
use Rattle.claims.specs.Calls.{Traced, submits, Move, whole, call, move, lent, are_words}
use Rattle.claims.specs.Claims.{numbered}
use Rattle.claims.proofs.AtStore.{memory-all}
use Rattle.claims.proofs.LiveTurn.{but_same, but-other}
use Rattle.told.proofs.OrderTurn.{View, view-sized, view-few}
use Rattle.told.proofs.OrderLevel.{held_of, helds_of, Idles, Works, Even, even-view, even-after}
use Rattle.told.proofs.OrderBlock.{owning-kept}
use Rattle.claims.proofs.Laid.{own-size, Laid, submission-laid}
use Rattle.claims.proofs.Cursors.{full-set}

-- a section that the engine takes from worker d
pub record Fit (n d : ℕ) (g : Given) : Type 0 where
  pub by : g.worker ≡ d
  pub eight : length g.args ≡ 8
  pub arg-words : are_words g.args ≡ true
  pub code-words : are_words g.code ≡ true
  pub passed : check n (length g.code) (code_of g.code) ≡ Ok tt

-- all of a list are such
abbrev pub Able : ℕ → ℕ → List Given → Type 0
Able n d [] = Unit {0}
Able n d (g ∷ gs) = Fit n d g × Able n d gs

module _ (mark n D : ℕ) (w : Traced) (rd : Memory) (d : ℕ) (cur : ℕ → Cursor) (taken : List Given) (view : View mark n D w rd d idle cur taken) (dl : d < D)
    (k : ℕ) (args ws : List ℕ) (count : rd (field Count d) ≡ 0) (pc : rd (field Pc d) ≡ 0) (later : rd (field Finished d) < k)
    (passed : check n (length ws) (code_of ws) ≡ Ok tt) where
  submit-free : free n (lent mark n (2 ^ 64 - 1) w).world d ≡ true
  unfolding free
  submit-free = rw (view.mine, view.memory, eq-eqb (rd (field Count d)) 0 count, eq-eqb (rd (field Pc d)) 0 pc)

  submit-taken : submit_answer mark n (lent mark n (2 ^ 64 - 1) w).world d k ws ≡ Ok tt
  unfolding submit_answer
  submit-taken = rw (view.header, view.many, lt-ltb d D dl, submit-free, view.memory, lt-ltb (rd (field Finished d)) k later, passed)

  submit-memory : 8 ≤ n → n ≤ 64 → length args ≡ 8
      → at n (put_all n (2 ^ 64 - 1) w.world.image (submission n d k args ws)) ≡ upd_all rd (submission n d k args ws)
  submit-memory least most eight =
      let c = (check-parts n (length ws) (code_of ws) passed).1 in
      let z = submission-length n d k args ws eight least in
      let ok = submission-valid n d k args ws eight D dl least c in
      memory-all n D w.world.image (view-sized mark n D w rd d idle cur taken view dl) (2 ^ 64 - 1) (submission n d k args ws) ok
      ∙ rw view.memory (ap (upd_all rd) (take_all (2 ^ 64 - 1) (submission n d k args ws) (omega arith)))

  pub submit-view :
      8 ≤ n → n ≤ 64 → length args ≡ 8
      → View mark n D (move mark n (whole (submits d k args ws)) w) (upd_all rd (submission n d k args ws)) d (on 0 0) cur (taken ++ (given d k args ws ∷ []))
  unfolding move call
  submit-view least most eight =
      let few = view-few mark n D w rd d idle cur taken view dl in
      rw submit-taken
      (record {
        header = header-all n mark (2 ^ 64 - 1) w.world.image (submission n d k args ws) ∙ view.header;
        many = workers-all n (2 ^ 64 - 1) w.world.image (submission n d k args ws) ∙ view.many;
        full = full-set w.world.cursors d 0 0 view.full;
        memory = submit-memory least most eight;
        mine = placed_same w.world.cursors d (on 0 0) view.full (omega arith) (λ q. omega arith);
        others = λ e h. placed-other w.world.cursors d e (on 0 0) h ∙ view.others e h;
        entered = ap (λ (l : List Given). l ++ (given d k args ws ∷ [])) view.entered;
      })

-- the record after it
laid-works :
    (n : ℕ) (rd rd' : Memory) (d k : ℕ) (g : Given) (gs : List Given) → 8 ≤ n → Fit n d g → Laid n rd rd' d k g.args g.code → rd (field Intent d) ≡ 0
    → rd (field Owned d) ≡ 0 → gs ≡ numbered k gs → k + length gs < 2 ^ 64
    → Works n rd' d (on 0 0) (map (start n) (g ∷ gs)) gs
laid-works n rd rd' d k g gs least fit laid intent owned numbers room =
    let parts = check-parts n (length g.code) (code_of g.code) fit.passed in
    let l = parts.0 in
    let same : check n (length g.code) (code_in n rd' d) ≡ (Ok tt) =
    check-cong n (length g.code) (code_in n rd' d) (code_of g.code) laid.code-words ∙ fit.passed in
    let z = held-zero (code_in n rd' d) in
    let full = own-size n g.args least fit.eight in
    record {
      first = start n g;
      cursor = refl;
      queue = refl;
      valid = rw laid.count (passed-valid n (length g.code) (code_in n rd' d) same);
      below = rw laid.count (omega arith);
      code = λ i h. sym (laid.code-words i (rw laid.count at h));
      size = full;
      words = λ i h. sym (laid.own-words i (rw full h));
      owned = laid.singles Owned refl refl ∙ (owned ∙ sym z);
      intent = laid.singles Intent refl refl ∙ (intent ∙ sym z);
      held = sym z;
      numbers = rw laid.number numbers;
      room = rw laid.number room;
    }

module _
    (mark n D : ℕ) (w : Traced) (s : State) (gs : ℕ → List Given) (E : Even mark n D w s gs) (d : ℕ) (dl : d < D) (least : 8 ≤ n) (most : n ≤ 64)
    (idles : Idles n (at n w.world.image) d (cursor_at w.world.cursors d) (get_or s.queues d []) (gs d)) (g : Given) (rest : List Given)
    (waits : gs d ≡ g ∷ rest) (fit : Fit n d g) where
  abbrev rd : Memory
  rd = at n w.world.image

  -- the number submitted
  abbrev pub next_number : ℕ
  next_number = rd (field Finished d) + 1

  abbrev pub submit_next : Move
  submit_next = whole (submits d next_number g.args g.code)

  abbrev laid_in : Memory
  laid_in = upd_all rd (submission n d next_number g.args g.code)

  -- it is the section's own, and those behind it have the numbers that follow
  next-numbers : (given g.worker next_number g.args g.code ≡ g) × (numbered next_number rest ≡ rest)
  next-numbers =
      let k = rd (field Finished d) in
      let e : g ∷ rest ≡ numbered k (g ∷ rest) = subst (λ (l : List Given). l ≡ numbered k l) waits idles.numbers in
      (cc, cc)

  pub next-room : next_number + length rest < 2 ^ 64
  next-room =
      let r : rd (field Finished d) + length (g ∷ rest) < 2 ^ 64 = subst (λ (l : List Given). rd (field Finished d) + length l < 2 ^ 64) waits idles.room in
      omega arith

  pub next-view : View mark n D (move mark n submit_next w) laid_in d (on 0 0) (cursor_at w.world.cursors) (w.trace.taken ++ (g ∷ []))
  next-view =
      let same : given d next_number g.args g.code ≡ g = ap (λ (e : ℕ). given e next_number g.args g.code) (sym fit.by) ∙ next-numbers.0 in
      subst (λ (x : Given). View mark n D (move mark n submit_next w) laid_in d (on 0 0) (cursor_at w.world.cursors) (w.trace.taken ++ (x ∷ []))) same
      (submit-view mark n D w rd d (cursor_at w.world.cursors) w.trace.taken (even-view mark n D w s gs E d idle idles.cursor) dl next_number g.args
      g.code
      idles.count idles.pc (omega arith) fit.passed least most fit.eight)

  private-queue : get_or s.queues d [] ≡ map (start n) (g ∷ rest)
  private-queue = idles.queue ∙ ap (map (start n)) waits

  pub next-even : Even mark n D (move mark n submit_next w) s (but gs d rest)
  next-even =
      let laid = submission-laid n rd d next_number g.args g.code in
      let works = laid-works n rd laid_in d next_number g rest least fit laid idles.intent idles.owned (sym next-numbers.1) next-room in
      let q = get_or s.queues d [] in
      subst (λ (qs : List (List Job)). Even mark n D (move mark n submit_next w) (state s.cells qs) (but gs d rest)) (set-get_or s.queues d [])
      (even-after mark n D w s gs E d (move mark n submit_next w) laid_in (on 0 0) (w.trace.taken ++ (g ∷ [])) (but gs d rest) s.cells q next-view dl
      (λ e h. but-other gs d rest e h)
      (λ e h. record { fields = laid.fields e h; steps = laid.steps e h; owns = laid.owns e h })
      (inr (rw (but_same gs d rest, private-queue) works))
      (owning-kept D rd laid_in (helds_of s.queues) d (held_of q) laid.locks refl E.level.owning)
      E.level.size (λ x l. E.level.cells x l ∙ sym (laid.cells x)))
