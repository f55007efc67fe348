-- Each turn leaves what stays of one amount more. Assumes nothing.
use mathlib.Core.Path.{◌≡◌}
use mathlib.Core.List.{◌++◌}
use lib.ListN.{take, drop}
use Rattle.basics.specs.Floats.{1f, ◌-f◌}
use Rattle.rules_mixture.specs.Mixture.{scale}
use Rattle.mixture_moves.proofs.remove.Given as goal

abbrev pub invariant-loop-x : goal.invariant-loop-x
invariant-loop-x l = l.x-items ≡ scale (1f -f l.goes) (take l.x-index l.initial.x-items) ++ drop l.x-index l.initial.x-items
