-- The reverses, a blank plan, then the run over the zones, which the two leave as they are. Assumes nothing.
use mathlib.Core.Path.{refl, ◌∙◌}
use Rattle.turfs.specs.Tables.{board_of}
use Rattle.reverse_links.proofs.Pairs.{reverses-of}
use Rattle.plan_all.proofs.Plans.{cleared-zoned, cleared-reverses, planned-all}
use Rattle.plan_all.proofs.plan_all.Goals as goal

pub plan_zones-requires : goal.plan_zones-requires
plan_zones-requires c =
    let find-reverses = c.find_reverses in
    let clear-plan = c.clear_plan in
    record {
      plannable = c.requires.plannable;
      fact = cleared-zoned c.requires.fact find-reverses.ensures.but clear-plan.ensures clear-plan.auto.words clear-plan.auto.floats;
      fact_2 = cleared-reverses c.requires.fact find-reverses.ensures.but clear-plan.ensures (reverses-of (board_of c.args.tables.now c.args.gases)
          _ find-reverses.ensures.backs);
    }

pub returns : goal.returns
returns c =
    let find-reverses = c.find_reverses in
    let clear-plan = c.clear_plan in
    let plan-zones = c.plan_zones in
    planned-all c.requires.fact find-reverses.ensures.but clear-plan.ensures plan-zones.ensures (plan-zones.auto.words ∙ clear-plan.auto.words)
    (plan-zones.auto.floats ∙ clear-plan.auto.floats) refl refl (reverses-of (board_of c.args.tables.now c.args.gases)
    _ find-reverses.ensures.backs)
