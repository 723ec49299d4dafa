-- Calls and lists of moves: what is played one list after the other (`play-append`), by induction on the first; a world that differs
-- from another in its events alone (`Noted`); the eight arguments of a submission that can be called (`args-full`), by the parts of
-- that test; and what two lists one behind the other being legal says of each (`machine-parts`, `legal-parts`, `ends-append`).
use Prim.Native.Nat.{ℕ, ◌^◌}
use mathlib.Core.Path.{◌≡◌, refl}
use mathlib.Core.List.{List, [], ◌∷◌, ◌++◌, append-nil}
use mathlib.Core.Bool.{Bool, true, false, ◌&&◌, ◌||◌, not, false≢true}
use lib.ListN.{length}
use lib.Dec.{eqb, ltb}
use borrow.Author.Tests.{eqb-true}
use Rattle.base.proofs.Bools.{and_left, and_right, and_both}
use Rattle.claims.specs.Events.{Event}
use Rattle.claims.specs.Calls.{Traced, traced, noting, submits, are_words, callable}
use Rattle.claims.specs.Calls.{Move, whole, cut, move, play, of_move, recovering, legal, ends_cut, plain, machine}

pub play-append : (mark n : ℕ) (xs ys : List Move) (w : Traced) → play mark n (xs ++ ys) w ≡ play mark n ys (play mark n xs w)
unfolding play
play-append mark n [] ys w = refl
play-append mark n (x ∷ xs) ys w = play-append mark n xs ys (move mark n x w)

-- a world as another one, but for its events
abbrev pub Noted : Traced → Traced → Type 0
Noted w v = (es : List Event) × (v ≡ traced w.world (noting w.trace es))

pub noted-none : (w : Traced) → Noted w w
noted-none w = ([], rw (append-nil w.trace.events))

-- a submission that can be called has eight arguments
pub args-full : (d k : ℕ) (args ws : List ℕ) → callable (submits d k args ws) ≡ true → length args ≡ 8
args-full d k args ws h =
    let a = ltb d (2 ^ 64) && ltb k (2 ^ 64) in
    let b = eqb (length args) 8 in
    eqb-true (length args) 8 (and_right a b (and_left (a && b) (are_words args) (and_left (a && b && are_words args) (are_words ws) h)))

-- ---- lists one behind the other, in parts

pub machine-parts : (xs ys : List Move) → machine (xs ++ ys) ≡ true → (machine xs ≡ true) × (machine ys ≡ true)
unfolding machine
machine-parts [] ys h = (refl, h)
machine-parts (x ∷ xs) ys h =
    let c = callable (of_move x) in
    let p = machine-parts xs ys (and_right c (machine (xs ++ ys)) h) in
    (and_both c (machine xs) (and_left c (machine (xs ++ ys)) h) p.0, p.1)

pub legal-parts : (b : Bool) (xs ys : List Move) → legal b (xs ++ ys) ≡ true → (legal b xs ≡ true) × (legal (ends_cut b xs) ys ≡ true)
unfolding legal ends_cut
legal-parts b [] ys h = (refl, h)
legal-parts b (whole c ∷ xs) ys h =
    let o = not b || recovering c in
    let p = legal-parts false xs ys (and_right o (legal false (xs ++ ys)) h) in
    (and_both o (legal false xs) (and_left o (legal false (xs ++ ys)) h) p.0, p.1)
legal-parts b (cut k c ∷ xs) ys h =
    let o = not b || recovering c in
    let p = legal-parts true xs ys (and_right o (legal true (xs ++ ys)) h) in
    (and_both o (legal true xs) (and_left o (legal true (xs ++ ys)) h) p.0, p.1)

pub ends-append : (b : Bool) (xs ys : List Move) → ends_cut b (xs ++ ys) ≡ ends_cut (ends_cut b xs) ys
unfolding ends_cut
ends-append b [] ys = refl
ends-append b (whole c ∷ xs) ys = ends-append false xs ys
ends-append b (cut k c ∷ xs) ys = ends-append true xs ys

pub plain-legal : (xs : List Move) → plain xs ≡ true → legal false xs ≡ true
unfolding plain legal
plain-legal [] h = refl
plain-legal (whole c ∷ xs) h = plain-legal xs (and_right (not (recovering c)) (plain xs) h)
plain-legal (cut k c ∷ xs) h = absurd (false≢true h)

pub plain-uncut : (xs : List Move) → plain xs ≡ true → ends_cut false xs ≡ false
unfolding plain ends_cut
plain-uncut [] h = refl
plain-uncut (whole c ∷ xs) h = plain-uncut xs (and_right (not (recovering c)) (plain xs) h)
plain-uncut (cut k c ∷ xs) h = absurd (false≢true h)

-- a submit is not made where a recovery is owing
pub submit-legal :
    (b : Bool) (d k : ℕ) (args ws : List ℕ) (ys : List Move) → legal b (whole (submits d k args ws) ∷ ys) ≡ true
    → (b ≡ false) × (legal false ys ≡ true)
unfolding legal
submit-legal false d k args ws ys h = (refl, h)
submit-legal true d k args ws ys h = absurd (false≢true h)
