use Rattle.fill_zone.proofs.Zones.{going_on, popping_start, popping_free, popping_next, popping_end}
use mathlib.Core.Path.{sym, ◌∙◌}
use Rattle.fill_zone.proofs.flood_fill.Goals as goal

pub loop-settings-init : goal.loop-settings-init
loop-settings-init c =
    popping_start c.requires.accepted _ _ _ _ _ _ _ _ c.requires.zone_fits c.start-t.ensures.zone_starts c.start-t.ensures.at_start c.requires.tests_le_allowance

pub pop-t-requires : goal.pop-t-requires
pop-t-requires c =
    let head = c.loop-settings in
    let t = head.t in
    let on = going_on t.state t.popped t.reach.queued (sym c.goes_on.ensures ∙ c.loop-settings-test.true) in record {
      accepted = c.requires.accepted;
      pop_fits = record {
        walking = record { fit = head.invariant.done.fit; bounds = head.invariant.done.bounds };
        on = on.0;
        left = on.1;
        clock = head.invariant.clock on.0;
        free = popping_free c.requires.accepted _ _ _ _ _ _ _ _ c.requires.zone_fits c.start-t.ensures.zone_starts c.start-t.ensures.at_start head.invariant on.1;
      };
    }

pub loop-settings-preserved : goal.loop-settings-preserved
loop-settings-preserved c =
    let by-start = c.start-t in
    let head = c.loop-settings in
    let by-goes-on = c.goes_on in
    let by-if1 = c.loop-settings-test in
    let by-pop = c.pop-t in
    let t = head.t in
    let on = going_on t.state t.popped t.reach.queued (sym by-goes-on.ensures ∙ by-if1.true) in
    popping_next c.requires.accepted _ _ _ _ _ _ _ _ c.requires.zone_fits by-start.ensures.zone_starts by-start.ensures.at_start head.invariant on.1 by-pop.ensures.fact by-pop.ensures.moved

pub returns : goal.returns
returns c =
    let by-start = c.start-t in
    popping_end c.requires.accepted _ _ _ _ _ _ _ _ c.requires.zone_fits by-start.ensures.zone_starts by-start.ensures.at_start c.loop-settings.invariant (sym c.goes_on.ensures ∙ c.loop-settings-test.false)
