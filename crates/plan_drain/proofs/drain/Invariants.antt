-- The loop's invariant: the rows left, from here on, come to all rows from the end. Assumes nothing.
use Prim.Native.Nat.{◌-◌}
use mathlib.Core.List.{reverse}
use lib.ListN.{take, drop}
use Rattle.basics.specs.Loops.{run}
use Rattle.plan_state.specs.Held.{area, plan_view}
use Rattle.plan_trade.specs.Steps.{drain_via}
use Rattle.plan_state.proofs.Nodes.{Onto}
use Rattle.plan_drain.proofs.drain.Given as goal

abbrev pub invariant-loop-i : goal.invariant-loop-i
invariant-loop-i l =
    Onto l.layout.turfs l.layout.links (λ o p. run (drain_via (plan_view l.layout.turfs l.layout.links (area l.words l.initial.floats)).reverse (plan_view l.layout.turfs l.layout.links (area l.words l.initial.floats)).via l.z o) (reverse (take (l.i - l.from) (drop l.from (plan_view l.layout.turfs l.layout.links (area l.words l.initial.floats)).queue))) p)
    (λ o p. run (drain_via (plan_view l.layout.turfs l.layout.links (area l.words l.initial.floats)).reverse (plan_view l.layout.turfs l.layout.links (area l.words l.initial.floats)).via l.z o) (reverse (take (l.to - l.from) (drop l.from (plan_view l.layout.turfs l.layout.links (area l.words l.initial.floats)).queue))) p)
    (area l.words l.initial.floats) (area l.words l.floats)
