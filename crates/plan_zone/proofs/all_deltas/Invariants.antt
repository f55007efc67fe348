-- The loop's invariant: the nodes left, from here on, come to all nodes from the start. Assumes nothing.
use Prim.Native.Nat.{ℕ}
use mathlib.Core.List.{List}
use lib.ListN.{drop}
use lib.Ieee.{Float}
use Rattle.basics.specs.Floats.{0f, ◌-f◌}
use Rattle.basics.specs.Loops.{run}
use Rattle.rules_board.specs.Board.{Board}
use Rattle.turfs.specs.Tables.{board_of}
use Rattle.rules_mixture.specs.Mixture.{total}
use Rattle.rules_plan.specs.Plan.{Plan, store}
use Rattle.plan_state.specs.Held.{area, plan_view, nodes_of}
use Rattle.plan_state.proofs.Nodes.{Onto}
use Rattle.plan_zone.proofs.all_deltas.Given as goal

-- the state of one turf at first
abbrev pub step : Board → List Float → Float → ℕ → Plan → Plan
step b gas average r t = store t r (record { delta = total b gas r -f average; amount = 0f; direction = 0; fast = 0 })

abbrev pub invariant-loop-i : goal.invariant-loop-i
invariant-loop-i l = Onto l.layout.turfs l.layout.links (λ o p. run (step (board_of l.tables l.gases) l.gas l.average) (drop l.i (nodes_of l.layout.turfs l.layout.links (plan_view l.layout.turfs l.layout.links (area l.initial.words l.initial.floats)) l.first l.count)) p)
    (λ o p. run (step (board_of l.tables l.gases) l.gas l.average) (nodes_of l.layout.turfs l.layout.links (plan_view l.layout.turfs l.layout.links (area l.initial.words l.initial.floats)) l.first l.count) p) (area l.initial.words l.initial.floats) (area l.words l.floats)
