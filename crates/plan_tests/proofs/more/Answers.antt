-- One comparison serves both sides. Assumes nothing.
use Rattle.plan_tests.proofs.Sides.{more_given}
use mathlib.Core.Path.{ap₂, ◌∙◌}
use lib.Ieee.{Float, lt, neg}
use Rattle.plan_tests.proofs.more.Goals as goal

pub returns : goal.returns
returns c = ap₂ (λ (a b : Float). lt a (neg b)) c.given-2.ensures c.given.ensures ∙ more_given c.args.side c.args.x c.args.y
