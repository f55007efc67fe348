-- The loop's invariant: the links left, counted on from here, come to all links counted from 0. Assumes nothing.
use Prim.Native.Nat.{ℕ, ◌≤◌, ◌-◌}
use mathlib.Core.Path.{◌≡◌}
use mathlib.Core.List.{List}
use lib.ListN.{get_or}
use Rattle.basics.specs.Loops.{run, up_from}
use Rattle.scratch.specs.View.{owner_in, fast_in}
use Rattle.plan_fast.specs.Steps.{tally_step}
use Rattle.plan_fast.proofs.count_eligible.Given as goal

-- one link counted
abbrev pub step : ℕ → ℕ → ℕ → List ℕ → List ℕ → ℕ → ℕ → ℕ
step z n e neighbours w k d = tally_step (owner_in e w) (fast_in n e w) z k (get_or neighbours k 0) d

abbrev pub invariant-loop-k : goal.invariant-loop-k
invariant-loop-k l = (l.c ≤ l.k)
    × (run (step l.z l.layout.turfs l.layout.links l.neighbours l.words) (up_from l.k (l.to - l.k)) l.c ≡ run (step l.z l.layout.turfs l.layout.links l.neighbours l.words) (up_from l.from (l.to - l.from)) 0)
