-- What an accepted recovery stores, as the code has it: the sets and owed sets that decide it, worked out before the first
-- store (`repair_of`), and the 592 slots of a repair, each a store or empty, in document 01's order (`slot_at`).
use Rattle.std.specs.Prelude.{ℕ, suc, zero, ◌+◌, ◌-◌, ◌/◌, ◌%◌, cond, List, [], ◌∷◌, get_or, replicate, ltb, Option, Some, None, ◌≡◌, ◌<◌, ◌≤◌, length}
use Rattle.std.specs.Int.Bits.{bit_or}
use Rattle.mask.specs.Mask.{has, with}
use Rattle.image.specs.declared.Field.TheVariants.{Count, Intent}
use Rattle.image.specs.Place.{lock, field, Memory, Store}
use Rattle.image.specs.Image.{Image, index_of, at, workers, put}
use Rattle.repair.specs.declared.Repair.{Repair}
use Rattle.image.specs.declared.Word.{Word}
use Rattle.repair.specs.Plan.{◌≔◌, when, unbegun}
use Rattle.soundness.specs.Sound.{eight, owed_at}

-- ---- the sets

-- the locks that the first k workers intend
unfoldable pub freed_by : Memory → ℕ → ℕ
freed_by rd zero = 0
freed_by rd (suc k) = bit_or (freed_by rd k) (rd (field Intent k))

-- of the first k workers those that are withdrawn, as a set
unfoldable pub withdrawn_by : Memory → ℕ → ℕ
withdrawn_by rd zero = 0
withdrawn_by rd (suc k) = cond (unbegun rd k) (with (withdrawn_by rd k) k) (withdrawn_by rd k)

-- ---- the repair

unfoldable pub repair_of : ℕ → Image → Repair
repair_of n m =
    let rd = at n m in
    let D = workers m in
    record { workers = D; freed = freed_by rd D; withdrawn = withdrawn_by rd D; owed = eight (owed_at n rd D) }

-- the repair that stores nothing
unfoldable pub no_repair : Repair
no_repair = record { workers = 0; freed = 0; withdrawn = 0; owed = replicate 8 0 }

-- ---- its slots

-- a store of v in lock b's owner word, where b is in the set
abbrev pub lock_slot : ℕ → ℕ → ℕ → List Store
lock_slot set v b = when (has set b) (lock b ≔ v)

abbrev pub intent_slot : Repair → ℕ → List Store
intent_slot r d = when (ltb d r.workers) (field Intent d ≔ get_or r.owed d 0)

abbrev pub withdraw_slot : Repair → ℕ → List Store
withdraw_slot r d = when (has r.withdrawn d) (field Count d ≔ 0)

abbrev pub relock_slot : Repair → ℕ → ℕ → List Store
relock_slot r d b = lock_slot (get_or r.owed d 0) (d + 1) b

-- 64 unlocks, 8 intents, 8 withdrawals, 8 times 64 relocks
unfoldable pub slot_at : Repair → ℕ → List Store
slot_at r c =
    cond (ltb c 64) (lock_slot r.freed 0 c)
    (cond (ltb c 72) (intent_slot r (c - 64))
    (cond (ltb c 80) (withdraw_slot r (c - 72))
    (cond (ltb c 592) (relock_slot r ((c - 80) / 64) ((c - 80) % 64)) [])))

-- how the code says a slot
abbrev pub Slot : Type 0
Slot = Option Word

abbrev pub slot_of : ℕ → List Store → Slot
slot_of n [] = None
slot_of n (s ∷ ss) = Some (record { at = index_of n s.place; value = s.value })

-- what making its store leaves
abbrev pub slot_put : ℕ → Image → Slot → Image
slot_put left m None = m
slot_put left m (Some w) = put left m w.at w.value

abbrev pub slot_left : ℕ → Slot → ℕ
slot_left left None = left
slot_left left (Some w) = left - 1

-- what a call gives for each of the eight workers is its row, of one store at most
abbrev pub Slots : ℕ → (ℕ → List Store) → (ℕ → Slot → Type 0) → Type 0
Slots n f gives = (d : ℕ) (s : Slot) → d < 8 → gives d s → (s ≡ slot_of n (f d)) × (length (f d) ≤ 1)
