-- Each worker's record tells the numbers that it has begun (`RecordedAt`), and a section that is said to be finished while its pc is not
-- 0 has only its finish left (`TellsAt`): kept by every store of a turn, the worker's own (`stored-tells`) and another's (`other-tells`).
-- What a store makes of it is known from where the worker stands (`Writes`); a section that is not begun has a number above the finished
-- one, and no store of its turns changes the two before it is begun (`fresh_kept`).
use Prim.Native.Nat.{ℕ, suc, ◌<◌}
use mathlib.Core.Path.{◌≡◌, refl, sym, ap, ◌∙◌}
use mathlib.Core.Logic.{◌≢◌}
use mathlib.Core.Bool.{Bool, true, false, cond, true≢false}
use mathlib.Core.List.{List, [], ◌∷◌, ◌++◌}
use lib.Dec.{eqb}
use borrow.Author.Tests.{ne_eqb, eq-eqb, eqb-true}
use native.Mathlib.Omega.{arith}
use native.Mathlib.Decide.{ℕ_discrete}
use Rattle.image.specs.declared.Field.TheVariants.{Count, Pc, Addr0, Val0, Addr1, Val1, Intent, Owned, Number, Finished}
use Rattle.image.specs.Place.{Place, cell, lock, field, own, step, Memory}
use Rattle.image.specs.Inner.Same.{upd}
use Rattle.image.proofs.Places.{upd_same}
use Rattle.code.specs.Op.{op_of}
use Rattle.owed.specs.Owed.{named_step}
use Rattle.claims.specs.Reference.{Given}
use Rattle.claims.specs.Calls.{is_pc}
use Rattle.claims.proofs.Entries.{apart_of, named-cong}
use Rattle.told.proofs.Writes.{FinishNext, WritesPc, Writes}
use Rattle.told.proofs.Numbers.{RecordedAt, recorded-begins, recorded-moves, recorded-finishes, recorded-ends}

-- ---- one worker, one store

-- what is told: pc, number, finished and the instructions
abbrev telling : Place → Bool
telling (cell x) = false
telling (lock b) = false
telling (field Count e) = false
telling (field Pc e) = true
telling (field Addr0 e) = false
telling (field Val0 e) = false
telling (field Addr1 e) = false
telling (field Val1 e) = false
telling (field Intent e) = false
telling (field Owned e) = false
telling (field Number e) = true
telling (field Finished e) = true
telling (own e i) = false
telling (step e i) = true

-- f: the finished number at the start; bs: the numbers begun since
pub record TellsAt (n : ℕ) (f : ℕ) (bs : List ℕ) (rd : Memory) (d : ℕ) : Type 0 where
  pub numbers : RecordedAt f bs (rd (field Pc d)) (rd (field Number d)) (rd (field Finished d))
  -- what is finished with the pc not 0 has only its finish left
  pub closing : rd (field Pc d) ≢ 0 → rd (field Finished d) ≡ rd (field Number d) → FinishNext n rd d

-- it rests on the telling words of the worker
pub tells-same :
    (n f : ℕ) (bs : List ℕ) (rd rd' : Memory) (d : ℕ) → rd' (field Pc d) ≡ rd (field Pc d) → rd' (field Number d) ≡ rd (field Number d)
    → rd' (field Finished d) ≡ rd (field Finished d) → ((i : ℕ) → rd' (step d i) ≡ rd (step d i)) → TellsAt n f bs rd d → TellsAt n f bs rd' d
tells-same n f bs rd rd' d p k g s t =
    record {
      numbers = rw (p, k, g) t.numbers;
      closing = λ z e.
          let q : FinishNext n rd d = t.closing (λ x. z (p ∙ x)) (sym g ∙ (e ∙ k)) in
          rw (named-cong n rd rd' d p) (ap op_of (s (suc (named_step n rd d))) ∙ q);
    }

-- the numbers begun behind a store, by whether it is one of the pc
abbrev pub begun_behind : List ℕ → ℕ → ℕ → Bool → List ℕ
begun_behind bs pc k true = cond (eqb pc 0) (bs ++ (k ∷ [])) bs
begun_behind bs pc k false = bs

module _ (n f : ℕ) (bs : List ℕ) (rd : Memory) (d : ℕ) (g : Given) (t : TellsAt n f bs rd d) where
  -- a word that tells nothing
  quiet : (p : Place) (v : ℕ) → telling p ≡ false → TellsAt n f bs (upd rd p v) d
  quiet p v h =
      let same : (q : Place) → telling q ≡ true → upd rd p v q ≡ rd q = λ q y. rw (apart_of telling q p y h) in
      tells-same n f bs rd (upd rd p v) d (same (field Pc d) refl) (same (field Number d) refl) (same (field Finished d) refl)
      (λ i. same (step d i) refl) t

  -- the pc
  pc-stored :
      (v : ℕ) → WritesPc n rd d g v → (rd (field Pc d) ≡ 0 → rd (field Finished d) < rd (field Number d))
      → TellsAt n f (begun_behind bs (rd (field Pc d)) g.number true) (upd rd (field Pc d) v) d
  pc-stored v (starts, ends, goes) newer = by (eqb (rd (field Pc d)) 0) refl (ℕ_discrete v 0)
    where
      now : upd rd (field Pc d) v (field Pc d) ≡ v
      now = upd_same rd (field Pc d) v

      by : (b : Bool) → eqb (rd (field Pc d)) 0 ≡ b → Dec (v ≡ 0) → TellsAt n f (cond b (bs ++ (g.number ∷ [])) bs) (upd rd (field Pc d) v) d
      by true e z =
          let p = eqb-true (rd (field Pc d)) 0 e in
          let (some, mine, k) = starts p in
          let l = newer p in
          record {
            numbers = rw (now, k) (recorded-begins f bs _ _ _ t.numbers v p some l);
            closing = λ x q. absurd (omega arith);
          }
      by false e (yes z) =
          let p : rd (field Pc d) ≢ 0 = λ q. true≢false (sym (eq-eqb _ 0 q) ∙ e) in
          record {
            numbers = rw (now, z) (recorded-ends f bs _ _ _ t.numbers p (ends p z));
            closing = λ x q. absurd (x (now ∙ z));
          }
      by false e (no z) =
          let p : rd (field Pc d) ≢ 0 = λ q. true≢false (sym (eq-eqb _ 0 q) ∙ e) in
          record {
            numbers = rw now (recorded-moves f bs _ _ _ t.numbers v p z);
            closing = λ x q. absurd (goes p z (t.closing p q));
          }

  -- the finished number
  finished-stored : (v : ℕ) → v ≡ rd (field Number d) → rd (field Pc d) ≢ 0 → FinishNext n rd d → TellsAt n f bs (upd rd (field Finished d) v) d
  finished-stored v e p next =
      record {
        numbers = rw (upd_same rd (field Finished d) v, e) (recorded-finishes f bs _ _ _ t.numbers p);
        closing = λ x q. rw (named-cong n rd (upd rd (field Finished d) v) d refl) next;
      }

  -- whatever the worker stores
  pub stored-tells :
      (p : Place) (v : ℕ) → Writes n rd d g p v → (rd (field Pc d) ≡ 0 → is_pc p ≡ true → rd (field Finished d) < rd (field Number d))
      → TellsAt n f (begun_behind bs (rd (field Pc d)) g.number (is_pc p)) (upd rd p v) d
  stored-tells (cell x) v s newer = quiet (cell x) v refl
  stored-tells (lock b) v s newer = quiet (lock b) v refl
  stored-tells (field Count e) v s newer = quiet (field Count e) v refl
  stored-tells (field Pc e) v (i, s) newer = rw i (pc-stored v s (λ z. newer z refl))
  stored-tells (field Addr0 e) v s newer = quiet (field Addr0 e) v refl
  stored-tells (field Val0 e) v s newer = quiet (field Val0 e) v refl
  stored-tells (field Addr1 e) v s newer = quiet (field Addr1 e) v refl
  stored-tells (field Val1 e) v s newer = quiet (field Val1 e) v refl
  stored-tells (field Intent e) v s newer = quiet (field Intent e) v refl
  stored-tells (field Owned e) v s newer = quiet (field Owned e) v refl
  stored-tells (field Number e) v s newer = absurd s.1
  stored-tells (field Finished e) v (i, s) newer = rw i (finished-stored v s.0 s.1 s.2)
  stored-tells (own e i) v s newer = quiet (own e i) v refl
  stored-tells (step e i) v s newer = absurd s

-- ---- another worker: none of its words is stored

-- a word of worker e's that tells
abbrev pub telling_of : ℕ → Place → Bool
telling_of e (cell x) = false
telling_of e (lock b) = false
telling_of e (field f d) = eqb d e
telling_of e (own d i) = false
telling_of e (step d i) = eqb d e

pub aside-of : (n : ℕ) (rd : Memory) (d : ℕ) (g : Given) (e : ℕ) → e ≢ d → (p : Place) (v : ℕ) → Writes n rd d g p v → telling_of e p ≡ false
aside-of n rd d g e h (cell x) v s = refl
aside-of n rd d g e h (lock b) v s = refl
aside-of n rd d g e h (field f c) v (i, s) = rw i (ne_eqb d e (λ q. h (sym q)))
aside-of n rd d g e h (own c i) v s = refl
aside-of n rd d g e h (step c i) v s = absurd s

pub other-tells :
    (n f : ℕ) (bs : List ℕ) (rd : Memory) (d : ℕ) (g : Given) (e : ℕ) → e ≢ d → (p : Place) (v : ℕ) → Writes n rd d g p v
    → TellsAt n f bs rd e → TellsAt n f bs (upd rd p v) e
other-tells n f bs rd d g e h p v s t =
    let a = aside-of n rd d g e h p v s in
    let r = eq-eqb e e refl in
    let same : (q : Place) → telling_of e q ≡ true → upd rd p v q ≡ rd q = λ q y. rw (apart_of (telling_of e) q p y a) in
    tells-same n f bs rd (upd rd p v) e (same (field Pc e) r) (same (field Number e) r) (same (field Finished e) r) (λ i. same (step e i) r) t

-- ---- a section that is not begun: no turn of it stores its number or the finished one

pub fresh_kept :
    (n : ℕ) (rd : Memory) (d : ℕ) (g : Given) (p : Place) (v : ℕ) → Writes n rd d g p v → rd (field Pc d) ≡ 0
    → (upd rd p v (field Finished d) ≡ rd (field Finished d)) × (upd rd p v (field Number d) ≡ rd (field Number d))
fresh_kept n rd d g (cell x) v s z = (refl, refl)
fresh_kept n rd d g (lock b) v s z = (refl, refl)
fresh_kept n rd d g (field Count e) v s z = (refl, refl)
fresh_kept n rd d g (field Pc e) v s z = (refl, refl)
fresh_kept n rd d g (field Addr0 e) v s z = (refl, refl)
fresh_kept n rd d g (field Val0 e) v s z = (refl, refl)
fresh_kept n rd d g (field Addr1 e) v s z = (refl, refl)
fresh_kept n rd d g (field Val1 e) v s z = (refl, refl)
fresh_kept n rd d g (field Intent e) v s z = (refl, refl)
fresh_kept n rd d g (field Owned e) v s z = (refl, refl)
fresh_kept n rd d g (field Number e) v s z = absurd s.1
fresh_kept n rd d g (field Finished e) v s z = absurd (s.1.1 z)
fresh_kept n rd d g (own e i) v s z = (refl, refl)
fresh_kept n rd d g (step e i) v s z = absurd s
