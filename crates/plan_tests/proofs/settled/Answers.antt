-- One comparison serves both sides. Assumes nothing.
use Rattle.plan_tests.proofs.Sides.{settled-given}
use mathlib.Core.Path.{ap, ◌∙◌}
use lib.Ieee.{Float, le}
use Rattle.basics.specs.Floats.{0f}
use Rattle.plan_tests.proofs.settled.Goals as goal

pub returns : goal.returns
returns c = ap (λ (y : Float). le y 0f) c.given.ensures ∙ settled-given c.args.side c.args.x
