-- A whole day without buffers: its pieces, one after the other, on the whole input (`day_of`); and the same in buffers, as a shell feeds the
-- core (`feeds`). proofs/Anyhow.antt shows that they put out the same bytes.
use Rattle.std.specs.Prelude.{ℕ, zero, suc, ◌≡◌, List, [], ◌∷◌, ◌++◌, Bool, false, cond}
use Rattle.buffers.specs.Output.{bytes_of}
use Rattle.pieces.specs.Pieces.{Point, point, dawn, ready, piece, Progress, progress, after, whole, pieces_left}

-- ---- without buffers

-- what f pieces at most print, no more input being to come
unfoldable pub drain : ℕ → Point → List ℕ
drain zero q = []
drain (suc f) q = cond (ready false q) (bytes_of (piece false q).stage.played.printed ++ drain f (piece false q)) []

-- as many as are left
abbrev pub rest : Point → List ℕ
rest q = drain (pieces_left q) q

-- what a day prints
abbrev pub day_of : List ℕ → List ℕ
day_of input = rest (dawn input)

-- ---- in buffers

-- a call of the core: the bytes read before it, whether more may come, and the room in its output
pub record Feed : Type 0 where
  pub bytes : List ℕ
  pub more : Bool
  pub room : ℕ

-- the calls one after the other, each on the input that the last one left, with the bytes read behind it
unfoldable pub feeds : List Feed → Point → Progress
feeds [] q = progress q []
feeds (h ∷ hs) q =
    let a = whole h.more h.room (point (q.input ++ h.bytes) q.stage) in
    after a.out (feeds hs a.point)

-- all bytes read
unfoldable pub bytes_in : List Feed → List ℕ
bytes_in [] = []
bytes_in (h ∷ hs) = h.bytes ++ bytes_in hs

-- where no more is to come, none comes
abbrev pub Honest : List Feed → Type 0
Honest [] = Unit {0}
Honest (h ∷ hs) = (h.more ≡ false → bytes_in hs ≡ []) × Honest hs
