-- When two places are the same, and the memory after stores: what the proofs work with in place of images.
use Rattle.std.specs.Prelude.{ℕ, Bool, false, cond, ◌&&◌, List, [], ◌∷◌, eqb}
use Rattle.image.specs.declared.Field.{Field}
use Rattle.image.specs.Place.{Place, cell, lock, field, own, step, offset, Memory, Store}

abbrev pub same_field : Field → Field → Bool
same_field f g = eqb (offset f) (offset g)

-- two places are the same; it computes wherever the constructors tell them apart
abbrev pub same : Place → Place → Bool
same (cell x) (cell y) = eqb x y
same (cell x) (lock b) = false
same (cell x) (field f d) = false
same (cell x) (own d i) = false
same (cell x) (step d i) = false
same (lock b) (cell x) = false
same (lock b) (lock c) = eqb b c
same (lock b) (field f d) = false
same (lock b) (own d i) = false
same (lock b) (step d i) = false
same (field f d) (cell x) = false
same (field f d) (lock b) = false
same (field f d) (field g e) = same_field f g && eqb d e
same (field f d) (own e i) = false
same (field f d) (step e i) = false
same (own d i) (cell x) = false
same (own d i) (lock b) = false
same (own d i) (field f e) = false
same (own d i) (own e j) = eqb d e && eqb i j
same (own d i) (step e j) = false
same (step d i) (cell x) = false
same (step d i) (lock b) = false
same (step d i) (field f e) = false
same (step d i) (own e j) = false
same (step d i) (step e j) = eqb d e && eqb i j

-- the memory after one store
abbrev pub upd : Memory → Place → ℕ → Memory
upd rd p v q = cond (same q p) v (rd q)

-- the memory after the stores of a list, the first one first
unfoldable pub upd_all : Memory → List Store → Memory
upd_all rd [] = rd
upd_all rd (s ∷ ss) = upd_all (upd rd s.place s.value) ss
