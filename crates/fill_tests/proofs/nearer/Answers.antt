-- The library's absolute value is the definition's. Assumes nothing.
use mathlib.Core.Path.{ap, ◌∙◌}
use lib.Ieee.{Float, lt}
use Rattle.fill_tests.proofs.Near.{abs-is}
use Rattle.fill_tests.proofs.nearer.Goals as goal

pub returns : goal.returns
returns c = ap (λ (x : Float). lt x c.args.threshold) (c.abs.ensures.value ∙ abs-is _)
