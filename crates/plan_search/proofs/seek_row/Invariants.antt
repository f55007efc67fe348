-- The loop's invariant: the links left, from here on, come to what all links come to from the start; a settled turf leaves the rest as it is. Assumes nothing.
use Prim.Native.Nat.{◌≤◌, ◌-◌}
use mathlib.Core.Path.{◌≡◌}
use lib.ListN.{length}
use Rattle.plan_state.specs.Held.{area}
use Rattle.plan_search.proofs.Rows.{Row}
use Rattle.plan_search.proofs.seek_row.Given as goal

abbrev pub invariant-loop-k : goal.invariant-loop-k
invariant-loop-k l = ((l.from ≤ l.k) × ((l.k ≤ l.to) × ((length l.words ≡ length l.initial.words) × (length l.floats ≡ length l.initial.floats))))
    × Row l.hand l.r l.from l.to l.neighbours l.initial.c l.initial.f l.c l.f l.k (area l.initial.words l.initial.floats) (area l.words l.floats)

abbrev pub decreases-loop-k : goal.decreases-loop-k
decreases-loop-k l = l.to - l.k
