-- What is left of the run, from where the loop stands, comes to the whole run. Assumes nothing.
use mathlib.Core.Path.{◌≡◌}
use mathlib.Core.List.{List}
use lib.ListN.{drop}
use lib.Ieee.{Float}
use Rattle.basics.specs.Loops.{run}
use Rattle.basics.specs.Floats.{◌+f◌}
use Rattle.rules_mixture.specs.Mixture.{sum}
use Rattle.mixture.proofs.sum.Given as goal

abbrev pub rest : List Float → Float → Float
rest xs t = run (λ x u. u +f x) xs t

abbrev pub invariant-loop-x : goal.invariant-loop-x
invariant-loop-x l = rest (drop l.x-index l.amounts) l.total ≡ sum l.amounts
