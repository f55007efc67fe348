-- The loop's invariant: the list with those left to choose is all that are chosen. Assumes nothing.
use lib.ListN.{get_or}
use lib.Ieee.{nan}
use Rattle.rules_plan.specs.Plan.{picks}
use Rattle.plan_state.specs.Held.{area, plan_view, nodes_of}
use Rattle.plan_zone.proofs.Lists.{Picking}
use Rattle.plan_zone.proofs.gather.Given as goal

abbrev pub invariant-loop-i : goal.invariant-loop-i
invariant-loop-i l = Picking l.zone.layout.turfs l.zone.layout.links (λ r. picks l.side (get_or (plan_view l.zone.layout.turfs l.zone.layout.links (area l.initial.words l.floats)).plan.delta r nan)) (nodes_of l.zone.layout.turfs l.zone.layout.links (plan_view l.zone.layout.turfs l.zone.layout.links (area l.initial.words l.floats)) l.zone.first l.zone.count) l.c l.i (area l.initial.words l.floats) (area l.words l.floats)
