-- The loop's invariant: the nodes left, from here on, come to all nodes from the start. Assumes nothing.
use lib.ListN.{drop}
use Rattle.basics.specs.Loops.{run}
use Rattle.turfs.specs.Tables.{board_of}
use Rattle.rules_plan.specs.Plan.{fast_turf}
use Rattle.plan_state.specs.Held.{area, plan_view, nodes_of}
use Rattle.plan_state.proofs.Nodes.{Onto}
use Rattle.plan_fast.proofs.fast_all.Given as goal

abbrev pub invariant-loop-i : goal.invariant-loop-i
invariant-loop-i l = Onto l.zone.layout.turfs l.zone.layout.links
    (λ o p. run (fast_turf (board_of l.tables l.gases) o l.zone.z) (drop l.i (nodes_of l.zone.layout.turfs l.zone.layout.links (plan_view l.zone.layout.turfs l.zone.layout.links (area l.initial.words l.initial.floats)) l.zone.first l.zone.count)) p)
    (λ o p. run (fast_turf (board_of l.tables l.gases) o l.zone.z) (nodes_of l.zone.layout.turfs l.zone.layout.links (plan_view l.zone.layout.turfs l.zone.layout.links (area l.initial.words l.initial.floats)) l.zone.first l.zone.count) p)
    (area l.initial.words l.initial.floats) (area l.words l.floats)
