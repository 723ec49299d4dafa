-- An image: a list of words, the memory of places that it is, its header, and what a store leaves of it. The layout's
-- numbers stand here and nowhere else. n is the number of own words in a record (8 in document 01).
use Rattle.std.specs.Prelude.{ℕ, suc, zero, ◌+◌, ◌*◌, ◌-◌, Bool, true, cond, ◌&&◌, List, [], ◌∷◌, length, get_or, take, drop, set, leb, eqb}
use Rattle.image.specs.Place.{offset, Place, cell, lock, field, own, step, valid, Memory, Store}

abbrev pub Image : Type 0
Image = List ℕ

-- ---- where the words stand

-- the words before the records: header, cells and locks
abbrev pub front : ℕ
front = 584

-- the words of a record but for the own words: ten single words and 64 instructions
abbrev pub rest : ℕ
rest = 74

-- the start of worker d's record, behind those of the workers before it
unfoldable pub record_at : ℕ → ℕ → ℕ
record_at n d = front + (rest + n) * d

-- the length of an image of D workers
unfoldable pub length_of : ℕ → ℕ → ℕ
length_of n D = record_at n D

unfoldable pub index_of : ℕ → Place → ℕ
index_of n (cell x) = 8 + x
index_of n (lock b) = 520 + b
index_of n (field f d) = record_at n d + offset f
index_of n (own d i) = record_at n d + (10 + i)
index_of n (step d i) = record_at n d + (10 + n + i)

-- ---- what an image holds

-- the number of workers that the header names
unfoldable pub workers : Image → ℕ
workers m = get_or m 1 0

-- the word at a place; 0 at a place that the image does not have
unfoldable pub at : ℕ → Image → Memory
at n m p = cond (valid (workers m) n p) (get_or m (index_of n p) 0) 0

-- the cells as a list
unfoldable pub cells_of : Image → List ℕ
cells_of m = take 512 (drop 8 m)

abbrev pub zeros : List ℕ → Bool
zeros [] = true
zeros (x ∷ xs) = eqb x 0 && zeros xs

-- length and words 0 to 7 are right (else cause 10): word 0 is the edition's mark, word 1 a number of workers from 1 to
-- 8, words 2 to 7 are 0
unfoldable pub header_ok : ℕ → ℕ → Image → Bool
header_ok mark n m =
    leb 1 (workers m) && leb (workers m) 8 && eqb (length m) (length_of n (workers m)) && eqb (get_or m 0 0) mark && zeros (take 6 (drop 2 m))

-- ---- stores

-- the image after a store of v at index i, with `left` stores to go: with none left nothing changes
unfoldable pub put : ℕ → Image → ℕ → ℕ → Image
put zero m i v = m
put (suc k) m i v = set m i v

-- the image after the stores of a list, while stores are left. A call cut after k of its stores is that call given k
unfoldable pub put_all : ℕ → ℕ → Image → List Store → Image
put_all n left m [] = m
put_all n left m (s ∷ ss) = put_all n (left - 1) (put left m (index_of n s.place) s.value) ss
