-- The test is made of the delta at its place. Assumes nothing.
use mathlib.Core.Path.{◌∙◌, ap}
use Prim.Native.Nat.{ℕ}
use lib.ListN.{get_or}
use lib.Ieee.{nan}
use Rattle.rules_plan.specs.Plan.{wants}
use Rattle.plan_trade.proofs.wants_at.Goals as goal

pub returns : goal.returns
returns c =
    let a = c.args in
    c.wants.ensures ∙ ap (λ (i : ℕ). wants a.side (get_or a.floats.now i nan)) c.delta_at.ensures
