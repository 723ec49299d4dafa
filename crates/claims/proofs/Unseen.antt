-- Stores that the reference machine does not see: they leave the cells, the pcs, and for every section under way its log entry,
-- its own words, its steps and its owned set (`Unseen`). The memory then stands for the same state (`unseen-mirrors`). Every
-- prefix of a recovery's stores and of a submission's is so.
use Prim.Native.Nat.{ℕ, ◌<◌}
use mathlib.Core.Path.{◌≡◌, refl, ap, sym, ◌∙◌}
use mathlib.Core.Logic.{◌⊎◌, inl, inr, ◌≢◌}
use mathlib.Core.Bool.{false}
use native.Mathlib.Decide.{ℕ_discrete}
use lib.Dec.{eqb}
use mathlib.Core.List.{List}
use lib.ListN.{take}
use borrow.Author.Tests.{ne_eqb}
use Rattle.image.specs.declared.Field.TheVariants.{Count, Pc, Owned}
use Rattle.image.specs.Place.{Place, cell, field, own, step, Memory}
use Rattle.image.specs.Inner.Same.{upd_all}
use Rattle.intake.specs.Submit.{submission}
use Rattle.repair.specs.Plan.{plan}
use Rattle.claims.specs.Reference.{State}
use Rattle.claims.proofs.Virtual.{Entry, over, entry_of, virtual, virtual-cong}
use Rattle.claims.proofs.Invariant.{Mirrors, Crashed}
use Rattle.claims.proofs.Covers.{crashed-parts}
use Rattle.claims.proofs.RecoveryFrame.{Framed, frame-op}
use Rattle.claims.proofs.Stages.{Kept, kept-framed, plan-kept}
use Rattle.claims.proofs.Submission.{Aside, aside-framed, submission-aside}
use Rattle.claims.proofs.Entries.{entry-none}
use Rattle.claims.proofs.Fields.{active-val-kept}
use Rattle.claims.proofs.Stutter.{mirror-frame}

-- a worker with the same record has the same entry
pub entry_frame : (n : ℕ) (rd rd' : Memory) (d : ℕ) → Framed n rd rd' d → entry_of n rd' d ≡ entry_of n rd d
unfolding entry_of
entry_frame n rd rd' d f = rw (f.pc, frame-op n rd rd' d f, active-val-kept n rd rd' d f.pc, f.val)

-- the words of a section under way
pub record SameJob (n : ℕ) (rd rd' : Memory) (d : ℕ) : Type 0 where
  pub count : rd' (field Count d) ≡ rd (field Count d)
  pub owned : rd' (field Owned d) ≡ rd (field Owned d)
  pub owns : (i : ℕ) → rd' (own d i) ≡ rd (own d i)
  pub code : (i : ℕ) → rd' (step d i) ≡ rd (step d i)

pub record Unseen (n D : ℕ) (rd rd' : Memory) : Type 0 where
  pub entries : (d : ℕ) → d < D → entry_of n rd' d ≡ entry_of n rd d
  pub cells : (x : ℕ) → rd' (cell x) ≡ rd (cell x)
  pub pcs : (d : ℕ) → d < D → rd' (field Pc d) ≡ rd (field Pc d)
  pub jobs : (d : ℕ) → d < D → rd (field Pc d) ≢ 0 → SameJob n rd rd' d

module _ (n D : ℕ) (rd rd' : Memory) (u : Unseen n D rd rd') where
  pub unseen-virtual : (q : Place) → rd' q ≡ rd q → virtual n rd' D q ≡ virtual n rd D q
  unseen-virtual q e = virtual-cong n rd rd' D q e (λ d l x. ap (λ (t : Entry). over t q x) (u.entries d l))

  pub unseen-mirrors : (s : State) → Mirrors n D rd s → Mirrors n D rd' s
  unseen-mirrors s m =
      mirror-frame n D rd rd' s
      (record {
        pcs = u.pcs;
        cells = λ x l. unseen-virtual (cell x) (u.cells x);
        owneds = λ d l z. unseen-virtual (field Owned d) (u.jobs d l z).owned;
        owns = λ d l z i h. unseen-virtual (own d i) ((u.jobs d l z).owns i);
        counts = λ d l z. (u.jobs d l z).count;
        steps = λ d l z. (u.jobs d l z).code;
      })
      m

-- ---- a recovery

private-count : (a b z c : ℕ) → (z ≡ 0 → ⊥) → (a ≡ b) ⊎ ((z ≡ 0) × (a ≡ c)) → a ≡ b
private-count a b z c h (inl e) = e
private-count a b z c h (inr e) = absurd (h e.0)

pub kept-unseen : (n D : ℕ) (rd rd' : Memory) → Kept n D rd rd' → Unseen n D rd rd'
kept-unseen n D rd rd' k =
    record {
      entries = λ d l. entry_frame n rd rd' d (kept-framed n D rd rd' k d);
      cells = λ x. k.fixed (cell x) refl;
      pcs = λ d l. k.fixed (field Pc d) refl;
      jobs = λ d l h.
          record {
            count = private-count (rd' (field Count d)) (rd (field Count d)) (rd (field Pc d)) 0 h (k.count d);
            owned = k.fixed (field Owned d) refl;
            owns = λ i. k.fixed (own d i) refl;
            code = λ i. k.fixed (step d i) refl;
          };
    }

pub plan-unseen : (n D : ℕ) (rd : Memory) → Crashed n D rd → (k : ℕ) → Unseen n D rd (upd_all rd (take k (plan n rd D)))
plan-unseen n D rd c k = kept-unseen n D rd _ (plan-kept n D rd (crashed-parts n D rd c) k)

-- ---- a submission

module _ (n D d : ℕ) (rd : Memory) (z : rd (field Pc d) ≡ 0) (rd' : Memory) (k : Aside d rd rd') where
  private-entry : (e : ℕ) → Dec (e ≡ d) → entry_of n rd' e ≡ entry_of n rd e
  private-entry e (yes i) = rw i (entry-none n rd' d (k (field Pc d) refl ∙ z) ∙ sym (entry-none n rd d z))
  private-entry e (no i) = entry_frame n rd rd' e (aside-framed n D d rd rd' k e i)

  private-other : (e : ℕ) → rd (field Pc e) ≢ 0 → eqb e d ≡ false
  private-other e h = ne_eqb e d (λ i. h (rw i z))

  pub aside-unseen : Unseen n D rd rd'
  aside-unseen =
      record {
        entries = λ e l. private-entry e (ℕ_discrete e d);
        cells = λ x. k (cell x) refl;
        pcs = λ e l. k (field Pc e) refl;
        jobs = λ e l h.
            record {
              count = k (field Count e) (rw (private-other e h));
              owned = k (field Owned e) refl;
              owns = λ i. k (own e i) (rw (private-other e h));
              code = λ i. k (step e i) (rw (private-other e h));
            };
      }

pub submission-unseen :
    (n D d k : ℕ) (args ws : List ℕ) (rd : Memory) → rd (field Count d) ≡ 0 → rd (field Pc d) ≡ 0 → (i : ℕ) → Unseen n D rd
    (upd_all rd (take i (submission n d k args ws)))
submission-unseen n D d k args ws rd c z i = aside-unseen n D d rd z _ (submission-aside n d k args ws rd c i)
