-- The reverse is one of the links, and an amount above 0 has bits; the three calls are the definition's three changes. Assumes nothing.
use mathlib.Core.Path.{◌∙◌, ap}
use Rattle.std.specs.Prelude.{ℕ, Option}
use Rattle.basics.specs.Floats.{0f}
use Rattle.rules_plan.specs.Edges.{alter}
use Rattle.finish_send.proofs.Edge.{back_fits, has-bits}
use Rattle.events.proofs.Areas.{one-added}
use Rattle.finish_send.proofs.send.Goals as goal

pub clear_at-requires : goal.clear_at-requires
clear_at-requires c =
    let pre = c.requires.fact in
    back_fits _ _ _ _ c.args.floats.now _ c.back_link-back.ensures pre.link pre.back pre.weights

pub append-requires : goal.append-requires
append-requires c =
    let pre = c.requires.fact in
    (has-bits _ pre.positive, pre.room)

pub returns : goal.returns
returns c =
    record {
      weights = c.clear_at.ensures ∙ ap (λ (s : Option ℕ). alter s (λ y. 0f) c.args.floats.now) c.back_link-back.ensures;
      air = c.move_between.ensures;
      event = one-added _ c.append.ensures;
    }
