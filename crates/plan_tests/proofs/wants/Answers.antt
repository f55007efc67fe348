-- One comparison serves both sides. Assumes nothing.
use Rattle.plan_tests.proofs.Sides.{wants-given}
use mathlib.Core.Path.{ap, ◌∙◌}
use lib.Ieee.{Float, lt}
use Rattle.basics.specs.Floats.{0f}
use Rattle.plan_tests.proofs.wants.Goals as goal

pub returns : goal.returns
returns c = ap (λ (y : Float). lt y 0f) c.given.ensures ∙ wants-given c.args.side c.args.y
