-- The first turf, and then the queue. Assumes nothing.
use mathlib.Core.Path.{refl}
use Rattle.walk_first.proofs.Whole.{begun-queued, walked}
use native.Mathlib.Omega.{arith}
use Rattle.walk_first.proofs.walk.Goals as goal

pub insert-requires : goal.insert-requires
insert-requires c =
    let p = c.requires in record { count_in_bounds = omega (arith, p.inside, p.words); a_in_bounds = omega (arith, p.inside, p.words, c.spots_at-spots.ensures); count_bound = omega arith }

pub walk_on-requires : goal.walk_on-requires
walk_on-requires c = record { fact = begun-queued _ _ _ _ _ c.requires _ (rw c.spots_at-spots.ensures at c.insert.ensures); walked_value = refl }

pub returns : goal.returns
returns c =
    let put = rw c.spots_at-spots.ensures at c.insert.ensures in
    walked _ _ _ _ _ c.requires _ put _ _ _ _ c.walk_on.ensures
