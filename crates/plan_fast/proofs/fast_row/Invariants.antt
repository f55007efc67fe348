-- The loop's invariant: the links left, from here on, come to all links from the start. Assumes nothing.
use Prim.Native.Nat.{◌-◌}
use Rattle.basics.specs.Loops.{run, up_from}
use Rattle.plan_state.specs.Held.{area, plan_view}
use Rattle.plan_state.proofs.Nodes.{Onto}
use Rattle.plan_fast.specs.Steps.{share_over}
use Rattle.plan_fast.proofs.fast_row.Given as goal

abbrev pub invariant-loop-k : goal.invariant-loop-k
invariant-loop-k l = Onto l.share.layout.turfs l.share.layout.links (λ o p. run (share_over l.share l.neighbours (plan_view l.share.layout.turfs l.share.layout.links (area l.words l.initial.floats)).reverse o) (up_from l.k (l.to - l.k)) p)
    (λ o p. run (share_over l.share l.neighbours (plan_view l.share.layout.turfs l.share.layout.links (area l.words l.initial.floats)).reverse o) (up_from l.from (l.to - l.from)) p)
    (area l.words l.initial.floats) (area l.words l.floats)
