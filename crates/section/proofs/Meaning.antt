-- The check answers what its answer means (`check-means`), and what it means has no other answer (`means-only`). By the step that refuses first, and
-- the first test that this step fails.
use Prim.Native.Nat.{ℕ, ◌<◌}
use Rattle.std.proofs.Common.{Ok, Err}
use mathlib.Core.Path.{◌≡◌, refl, sym, ap, subst, ◌∙◌}
use mathlib.Core.Bool.{Bool, true, false}
use native.Mathlib.Omega.{arith}
use Rattle.section.specs.declared.Fault.TheVariants.{Length, Malformed, Unbracketed, Unordered, Unguarded, Unlevel}
use Rattle.section.specs.Check.{Verdict, Code, first_of, form_of, in_turn, use_of, check, passes}
use Rattle.section.specs.Sets.{length_ok}
use Rattle.section.specs.Meaning.{formed_at, bracketed_at, ordered_at, guarded_at, level_at, FirstMalformed, FirstMisused, Means}
use Rattle.section.proofs.First.{or_left, or-refused, first-all, all_first}
use Rattle.section.proofs.Facts.{form-pass, pass-form, use-pass, pass-use, passed-valid, valid-passed}
use Rattle.section.proofs.Passing.{passed_is, refused-not, form-fails}
use Rattle.section.proofs.Refusing.{first_found, first-is, form-refuses}

module _ (own n : ℕ) (code : Code) where
  abbrev forms : Verdict
  forms = first_of (form_of own n code) 0 n

  abbrev uses : Verdict
  uses = first_of (use_of code) 0 n

  -- ---- from the answer to its meaning

  form-means : (v : Verdict) → length_ok n ≡ true → forms ≡ v → passes v ≡ false → Means own n code v
  form-means v l e r =
      let (j, x) = first_found (form_of own n code) 0 n v e r in
      let (q, fails) = form-refuses own n code j v x.refuses r in
      let below = x.below in
      subst (Means own n code) (sym q)
      (record { count = l; step = omega arith; earlier = λ m h. form-pass own n code m (x.earlier m (omega arith) h); fails = fails })

  -- the first of four tests that fails
  use-fails :
      (i : ℕ) (a b c e : Bool) (v : Verdict) → bracketed_at code i ≡ a → ordered_at code i ≡ b → guarded_at code i ≡ c → level_at code i ≡ e
      → in_turn i a b c e ≡ v → passes v ≡ false → FirstMisused own n code i
      → Means own n code v
  use-fails i true true true true v p q g h e r x = absurd (refused-not (Ok tt) (ap passes e ∙ r) refl)
  use-fails i true true true false v p q g h e r x = subst (Means own n code) e (x, p, q, g, h)
  use-fails i true true false d v p q g h e r x = subst (Means own n code) e (x, p, q, g)
  use-fails i true false c d v p q g h e r x = subst (Means own n code) e (x, p, q)
  use-fails i false b c d v p q g h e r x = subst (Means own n code) e (x, p)

  use-means : (v : Verdict) → length_ok n ≡ true → forms ≡ Ok tt → uses ≡ v → passes v ≡ false → Means own n code v
  unfolding use_of
  use-means v l f e r =
      let (j, x) = first_found (use_of code) 0 n v e r in
      let below = x.below in
      use-fails j (bracketed_at code j) (ordered_at code j) (guarded_at code j) (level_at code j) v refl refl refl refl x.refuses r
      (record {
        count = l;
        step = omega arith;
        formed = λ m h. form-pass own n code m (first-all (form_of own n code) 0 n f m (omega arith) (omega arith));
        earlier = λ m h. use-pass code m (x.earlier m (omega arith) h);
      })

  means-by : (b c e : Bool) → length_ok n ≡ b → passes forms ≡ c → passes uses ≡ e → Means own n code (check own n code)
  unfolding check
  means-by false c e l f u = rw l l
  means-by true false e l f u =
      let stops = or-refused forms uses (refused-not forms f) in
      rw (l, stops) (form-means forms l refl f)
  means-by true true false l f u =
      let p = passed_is forms f in
      rw (l, or_left forms uses p) (use-means uses l p refl u)
  means-by true true true l f u =
      let e : check own n code ≡ Ok tt = rw (l, or_left forms uses (passed_is forms f), passed_is uses u) in
      subst (Means own n code) (sym e) (passed-valid own n code e)

  pub check-means : Means own n code (check own n code)
  check-means = means-by (length_ok n) (passes forms) (passes uses) refl refl refl

  -- ---- and back

  forms-pass : ((j : ℕ) → j < n → formed_at own n code j ≡ true) → forms ≡ Ok tt
  forms-pass f = all_first (form_of own n code) 0 n (λ j a b. pass-form own n code j (f j (omega arith)))

  form-only : (i : ℕ) → FirstMalformed own n code i → check own n code ≡ Err (Malformed i)
  unfolding check
  form-only i x =
      let e : forms ≡ Err (Malformed i) = first-is (form_of own n code) 0 n i (Err (Malformed i)) (record {
        from = omega arith;
        below = omega (arith, x.step);
        refuses = form-fails own n code i x.fails;
        earlier = λ m a b. pass-form own n code m (x.earlier m b);
      }) refl in
      rw (x.count, e)

  use-only : (i : ℕ) (v : Verdict) → passes v ≡ false → FirstMisused own n code i → use_of code i ≡ v → check own n code ≡ v
  unfolding check
  use-only i v r x u =
      let e : uses ≡ v = first-is (use_of code) 0 n i v (record {
        from = omega arith;
        below = omega (arith, x.step);
        refuses = u;
        earlier = λ m a b. let (p, q, g, h) = x.earlier m b in pass-use code m p q g h;
      }) r in
      rw (x.count, or_left forms uses (forms-pass x.formed)) e

  pub means-only : (v : Verdict) → Means own n code v → check own n code ≡ v
  unfolding check use_of
  means-only (Ok tt) x = valid-passed own n code x
  means-only (Err Length) x = rw x
  means-only (Err (Malformed i)) x = form-only i x
  means-only (Err (Unbracketed i)) x = use-only i (Err (Unbracketed i)) refl x.0 (rw x.1)
  means-only (Err (Unordered i)) x = use-only i (Err (Unordered i)) refl x.0 (rw (x.1, x.2))
  means-only (Err (Unguarded i)) x = use-only i (Err (Unguarded i)) refl x.0 (rw (x.1, x.2, x.3))
  means-only (Err (Unlevel i)) x = use-only i (Err (Unlevel i)) refl x.0 (rw (x.1, x.2, x.3, x.4))
