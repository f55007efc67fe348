-- The loop's invariant: the givers counted and those left are all givers. Assumes nothing.
use Prim.Native.Nat.{◌≤◌, ◌+◌}
use mathlib.Core.Path.{◌≡◌}
use lib.ListN.{length, drop, get_or}
use lib.Ieee.{nan}
use Rattle.basics.specs.Loops.{keep}
use Rattle.rules_plan.specs.Plan.{picks, chosen}
use Rattle.rules_plan.specs.declared.Side.TheVariants.{Giving}
use Rattle.plan_state.specs.Held.{area, plan_view, nodes_of}
use Rattle.plan_zone.proofs.count_givers.Given as goal

abbrev pub invariant-loop-r : goal.invariant-loop-r
invariant-loop-r l = (l.c ≤ l.r-index)
    × (l.c + length (keep (λ r. picks Giving (get_or (plan_view l.zone.layout.turfs l.zone.layout.links (area l.words l.floats)).plan.delta r nan)) (drop l.r-index (nodes_of l.zone.layout.turfs l.zone.layout.links (plan_view l.zone.layout.turfs l.zone.layout.links (area l.words l.floats)) l.zone.first l.zone.count)))
    ≡ length (chosen Giving (nodes_of l.zone.layout.turfs l.zone.layout.links (plan_view l.zone.layout.turfs l.zone.layout.links (area l.words l.floats)) l.zone.first l.zone.count) (plan_view l.zone.layout.turfs l.zone.layout.links (area l.words l.floats)).plan))
