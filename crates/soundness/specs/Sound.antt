-- Which records and locks are sound: what a recovery tests, and the locks that each worker is owed.
use Rattle.std.specs.Prelude.{ℕ, suc, zero, ◌+◌, ◌%◌, ◌^◌, List, [], ◌∷◌, Bool, cond, ◌&&◌, ◌||◌, leb, ltb, eqb}
use Rattle.image.specs.declared.Field.TheVariants.{Count, Pc, Intent, Owned, Number, Finished}
use Rattle.image.specs.Place.{lock, field, Memory}
use Rattle.section.specs.Check.{check, passes}
use Rattle.worklog.specs.Log.{code_in}
use Rattle.owed.specs.Owed.{covers, claimants, named_step, named_op, held_here, held_next, owed, entry_ok, owner_ok}

-- what f gives for the numbers 0 to 7
abbrev pub eight : (ℕ → ℕ) → List ℕ
eight f = f 0 ∷ f 1 ∷ f 2 ∷ f 3 ∷ f 4 ∷ f 5 ∷ f 6 ∷ f 7 ∷ []

-- n: own words in a record
module _ (n : ℕ) (rd : Memory) where
  module _ (d : ℕ) where
    -- no section, or one that passes the check, with a number that may be under way
    unfoldable pub section_ok : Bool
    section_ok =
        cond (eqb (rd (field Count d)) 0) (eqb (rd (field Pc d)) 0)
        (passes (check n (rd (field Count d)) (code_in n rd d)) && leb 1 (rd (field Number d)) && leb (rd (field Finished d)) (rd (field Number d)))

    -- the pc names no step, with nothing owned, or one whose entry is right, with the set before or after it owned
    unfoldable pub pc_ok : Bool
    pc_ok =
        cond (eqb (rd (field Pc d)) 0) (eqb (rd (field Owned d)) 0)
        (leb 1 (rd (field Pc d) % 2 ^ 63) && ltb (named_step n rd d) (rd (field Count d)) && entry_ok n rd d (named_op n rd d)
        && (eqb (rd (field Owned d)) (held_here n rd d) || eqb (rd (field Owned d)) (held_next n rd d)))

    -- the record is sound (else cause 12)
    unfoldable pub sound : Bool
    sound = section_ok && pc_ok && covers (rd (field Intent d)) (owed n rd d) 64

  -- D: the number of workers
  module _ (D : ℕ) where
    -- the first worker, of k from d on, whose record is not sound
    unfoldable pub unsound : ℕ → ℕ → List ℕ
    unsound d zero = []
    unsound d (suc k) = cond (sound d) (unsound (d + 1) k) (d ∷ [])

    -- no two workers are owed lock b, and its owner word is right (else cause 13)
    unfoldable pub lock_ok : ℕ → Bool
    lock_ok b = leb (claimants (owed n rd) b D) 1 && owner_ok n rd D b (rd (lock b))

    -- the first lock, of k from b on, that is not
    unfoldable pub bad_lock : ℕ → ℕ → List ℕ
    bad_lock b zero = []
    bad_lock b (suc k) = cond (lock_ok b) (bad_lock (b + 1) k) (b ∷ [])

-- worker d's owed set, of D; empty for one that the image has not
abbrev pub owed_at : ℕ → Memory → ℕ → ℕ → ℕ
owed_at n rd D d = cond (ltb d D) (owed n rd d) 0
