-- `worklog::words::eval` meets its contract: a literal says its value, and the three others' words are read alike.
use Rattle.std.proofs.Common.{◌≡◌, ℕ, ◌+◌, ◌<◌, ◌⊎◌, inl, inr, arith}
use Rattle.image.specs.Image.{at}
use Rattle.code.specs.declared.Expr.{Expr}
use Rattle.code.specs.declared.Expr.TheVariants.{Sum, Difference, Less}
use Rattle.code.specs.Op.{of_two, eval}
use Rattle.code.specs.Inner.Fits.{ranged}
use Rattle.worklog.specs.Log.{word_in}
use Rattle.worklog.proofs.words.eval.Goals as goal

-- the two words of an expression of two words
abbrev OfWords : Expr → ℕ → ℕ → Type 0
OfWords e b c = (e ≡ Sum b c) ⊎ ((e ≡ Difference b c) ⊎ (e ≡ Less b c))

words-ranged : (own : ℕ) (e : Expr) (b c : ℕ) → OfWords e b c → ranged own e → (b < 512 + own) × (c < 512 + own)
words-ranged own e b c (inl p) r = rw p at r
words-ranged own e b c (inr (inl p)) r = rw p at r
words-ranged own e b c (inr (inr p)) r = rw p at r

words-eval : (f : ℕ → ℕ) (e : Expr) (b c : ℕ) → OfWords e b c → eval f e ≡ of_two e (f b) (f c)
unfolding eval of_two
words-eval f e b c (inl p) = rw p
words-eval f e b c (inr (inl p)) = rw p
words-eval f e b c (inr (inr p)) = rw p

pub overflow_mul-result : goal.overflow_mul-result
overflow_mul-result c = omega (arith, rw c.in-Literal.is at c.requires.1)

pub overflow_add-result : goal.overflow_add-result
overflow_add-result c = omega (arith, rw c.in-Literal.is at c.requires.1)

pub word-requires : goal.word-requires
word-requires c = (c.requires.0, (words-ranged _ _ _ _ c.in-Sum.is c.requires.1).0)

pub word-requires-in-Sum : goal.word-requires-in-Sum
word-requires-in-Sum c = (c.requires.0, (words-ranged _ _ _ _ c.in-Sum.is c.requires.1).1)

pub returns-in-Literal : goal.returns-in-Literal
unfolding eval
returns-in-Literal c = rw c.in-Literal.is

pub returns-in-Sum : goal.returns-in-Sum
returns-in-Sum c =
    let A = c.args in
    let e = words-eval (word_in A.own (at A.own A.image.now) A.d) _ _ _ c.in-Sum.is in
    rw (e, ← c.word.ensures, ← c.word-in-Sum.ensures, ← c.in-Sum.e-is) c.combined.ensures
