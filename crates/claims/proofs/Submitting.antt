-- A section submitted: after the stores of a submission the worker stands at its first turn (`submit-phase`), and every other
-- one where it stood, since it sees nothing of them; so that all of them stand right (`submit-live`). From what the stores
-- leave, `Laid`.
use Prim.Native.Nat.{ℕ, ◌<◌, ◌≤◌}
use mathlib.Core.Path.{◌≡◌, refl, subst, ◌∙◌, sym, fun_ext}
use mathlib.Core.Logic.{◌≢◌}
use mathlib.Core.List.{List}
use lib.ListN.{length}
use native.Mathlib.Omega.{arith}
use Rattle.std.specs.Prelude.{Ok}
use Rattle.image.specs.declared.Field.TheVariants.{Count, Pc, Intent, Owned, Finished}
use Rattle.image.specs.Place.{field, Memory}
use Rattle.image.specs.Inner.Same.{same}
use Rattle.section.specs.Check.{code_of, check}
use Rattle.section.specs.Valid.{Valid}
use Rattle.section.proofs.Facts.{check-cong, passed-valid}
use Rattle.working.specs.Cursor.{Cursor, idle, on}
use Rattle.worklog.specs.Log.{code_in}
use Rattle.claims.specs.Reference.{Given, given}
use Rattle.claims.specs.Events.{but}
use Rattle.claims.proofs.Invariant.{Sectioned, Nearing, Phase, resting, fresh, due, unlocking, unlocked, between, ended, Live}
use Rattle.claims.proofs.Frame.{Agree, phase-same}
use Rattle.claims.proofs.LiveTurn.{live-but, but_same, but-other, but-self}
use Rattle.claims.proofs.Laid.{own-size, submitted_to, Laid, submission-laid}

-- ---- the worker that submitted it, and the others

module _ (n : ℕ) (rd : Memory) (d k : ℕ) (args ws : List ℕ) where
  abbrev after : Memory
  after = submitted_to n d k args ws rd

  laid : Laid n rd after d k args ws
  laid = submission-laid n rd d k args ws

  -- another worker sees nothing of it
  submit-agrees : (e locks : ℕ) → e ≢ d → Agree rd after e locks
  submit-agrees e locks ne = record { fields = laid.fields e ne; steps = laid.steps e ne; owns = laid.owns e ne; cells = λ x l h. laid.cells x }

  submit-code : check n (length ws) (code_of ws) ≡ Ok tt → Valid n (after (field Count d)) (code_in n after d)
  submit-code h =
      rw laid.count
      (passed-valid n (length ws) (code_in n after d) (check-cong n (length ws) (code_in n after d) (code_of ws) laid.code-words ∙ h))

  -- the first turn of a section that is taken
  pub submit-phase :
      8 ≤ n → length args ≡ 8 → check n (length ws) (code_of ws) ≡ Ok tt → rd (field Finished d) < k → rd (field Pc d) ≡ 0 → rd (field Intent d) ≡ 0 → rd
      (field Owned d) ≡ 0
      → Phase n after d (given d k args ws) (on 0 0) 0 0
  submit-phase wide full h numbers p i o =
      let valid = submit-code h in
      let size = own-size n args wide full in
      let sec : Sectioned n after d =
      record {
        valid = valid;
        numbered = rw laid.number (omega arith);
        unfinished = rw (laid.number, laid.singles Finished refl refl) (omega arith);
      }
      in
      let first = valid.first in
      fresh 0 0 sec
      (record {
        by = refl;
        numbered = sym laid.number;
        code = λ j l. sym (laid.code-words j (rw laid.count at l));
        size = size;
        args = λ j l. sym (laid.own-words j (rw size l));
      })
      (laid.singles Pc refl refl ∙ p) (laid.singles Owned refl refl ∙ o)
      (subst (Nearing n after d 0 0 0 0) (sym first.1)
      (omega arith, laid.singles Intent refl refl ∙ i, refl, λ l. absurd (omega arith), λ l. absurd (omega arith)))

-- what an idle worker has
pub record Resting (rd : Memory) (d l j : ℕ) : Type 0 where
  pub count : rd (field Count d) ≡ 0
  pub pc : rd (field Pc d) ≡ 0
  pub intent : rd (field Intent d) ≡ 0
  pub owned : rd (field Owned d) ≡ 0
  pub locks : l ≡ 0
  pub jumps : j ≡ 0

pub on-not-idle : (s t : ℕ) → on s t ≡ idle → ⊥
on-not-idle s t e = let z : ◌≡◌ {A = ℕ} 0 1 = cc in omega arith

pub idle-rests : (n : ℕ) (rd : Memory) (d : ℕ) (g : Given) (c : Cursor) (locks j : ℕ) → Phase n rd d g c locks j → c ≡ idle → Resting rd d locks j
idle-rests n rd d g c locks j (resting k p i o) e = record { count = k; pc = p; intent = i; owned = o; locks = refl; jumps = refl }
idle-rests n rd d g c locks j (fresh t l s h p o m) e = absurd (on-not-idle _ _ e)
idle-rests n rd d g c locks j (due s l k m q) e = absurd (on-not-idle _ _ e)
idle-rests n rd d g c locks j (unlocking s a l k m o w i q) e = absurd (on-not-idle _ _ e)
idle-rests n rd d g c locks j (unlocked s a l k m o w i q) e = absurd (on-not-idle _ _ e)
idle-rests n rd d g c locks j (between s k t l jj q m f u z o h y) e = absurd (on-not-idle _ _ e)
idle-rests n rd d g c locks j (ended s k p o i b q) e = absurd (on-not-idle _ _ e)

-- all workers after a section of worker d is taken
pub submit-live :
    (n D : ℕ) (rd : Memory) (cursor : ℕ → Cursor) (locks jumps : ℕ → ℕ) (last : ℕ → Given) (d k : ℕ) (args ws : List ℕ) → Live n D rd cursor locks jumps last →
    d < D → cursor d ≡ idle
    → 8 ≤ n → length args ≡ 8 → check n (length ws) (code_of ws) ≡ Ok tt → rd (field Finished d) < k
    → Live n D (submitted_to n d k args ws rd) (but cursor d (on 0 0)) (but locks d 0) (but jumps d 0) (but last d (given d k args ws))
submit-live n D rd cursor locks jumps last d k args ws L dl i wide full h numbers =
    let R = idle-rests n rd d (last d) (cursor d) (locks d) (jumps d) (L.phase d dl) i in
    let same : but locks d 0 ≡ locks = subst (λ (z : ℕ). but locks d z ≡ locks) R.locks (fun_ext (but-self locks d)) in
    live-but n D rd (submitted_to n d k args ws rd) cursor locks jumps (but last d (given d k args ws)) d (on 0 0) 0 0
    (λ e l r. rw (but-other last d (given d k args ws) e r)
    (phase-same n rd (submitted_to n d k args ws rd) e (last e) (cursor e) (locks e) (jumps e) (L.phase e l)
    (submit-agrees n rd d k args ws e (locks e) r)))
    (rw (but_same last d (given d k args ws)) (submit-phase n rd d k args ws wide full h numbers R.pc R.intent R.owned))
    (rw same (record {
      locked = λ b e l p x. (submission-laid n rd d k args ws).locks b ∙ L.locked b e l p x;
      owner = λ b e l x. L.owner b e l (sym ((submission-laid n rd d k args ws).locks b) ∙ x);
    }))
