-- `stretch::locks::release` meets its contract: its stores are those of `release-frees`, or of a release that passes.
use mathlib.Core.Path.{sym, ◌∙◌}
use native.Mathlib.Omega.{arith}
use Rattle.image.proofs.Stores.{inside-front, lock-lt}
use Rattle.stretch.proofs.Running.{fetched_fits, inside_store}
use Rattle.stretch.proofs.ByKind.{disowned-inside, release-frees}
use Rattle.stretch.proofs.Counting.{made-stores}
use Rattle.stretch.proofs.Released.{report-own, release-passes}
use Rattle.stretch.proofs.locks.release.Goals as goal

pub read_lock-word-requires : goal.read_lock-word-requires
read_lock-word-requires c =
    let f = c.requires.0 in
    (fetched_fits _ _ _ _ _ f, rw c.disown.ensures.image (inside-front _ _ _ (disowned-inside _ _ _ _ _ _ f.inside)))

pub store_inside-requires : goal.store_inside-requires
store_inside-requires c =
    let f = c.requires.0 in
    let inside = disowned-inside _ _ _ _ _ _ f.inside in
    lock-lt c.disown.new.image _ (fetched_fits _ _ _ _ _ f) (rw c.disown.ensures.image (inside-front _ _ _ inside)) (c.lock_index.ensures 0)

pub unwant-requires : goal.unwant-requires
unwant-requires c =
    let f = c.requires.0 in (
      rw (c.store_inside.ensures.image, c.lock_index.ensures c.args.own, c.disown.ensures.image)
          (inside_store _ _ _ _ _ _ (disowned-inside _ _ _ _ _ _ f.inside)),
      fetched_fits _ _ _ _ _ f,
    )

pub returns-then-word-d-clause-made : goal.returns-then-word-d-clause-made
returns-then-word-d-clause-made c =
    let A = c.args in
    let freed = report-own _ _ (sym (c.read_lock-word.ensures A.own) ∙ c.if-word-d.true) in
    made-stores 6
    (λ y. rw (
      c.without.ensures,
      c.unwant.ensures.image,
      c.unwant.ensures.left,
      c.store_inside.ensures.image,
      c.store_inside.ensures.left,
      c.lock_index.ensures A.own,
      c.disown.ensures.left,
    )
    (release-frees _ _ _ _ _ _ y _ c.requires.0 _ c.disown.ensures.image freed))
    (omega arith)
    (omega arith)

pub unwant-requires-2 : goal.unwant-requires-2
unwant-requires-2 c =
    let f = c.requires.0 in
    (rw c.disown.ensures.image (disowned-inside _ _ _ _ _ _ f.inside), fetched_fits _ _ _ _ _ f)

pub returns-clause-made : goal.returns-clause-made
returns-clause-made c =
    rw (c.found.ensures, c.unwant-2.ensures.image, c.unwant-2.ensures.left, c.disown.ensures.left)
    (release-passes _ _ _ _ _ _ _ _ c.requires.0 c.disown.ensures.image (c.read_lock-word.ensures c.args.own) c.if-word-d.false)
