-- Each turn plans one zone more. Assumes nothing.
use native.Mathlib.Omega.{arith}
use Rattle.plan_state.proofs.Nodes.{reverses-kept}
use Rattle.plan_all.proofs.Zones.{frame-alike, zoned_alike}
use Rattle.plan_all.proofs.Plans.{going_next, going_end}
use Rattle.plan_all.proofs.plan_zones.Goals as goal

pub plan_zone_at-requires : goal.plan_zone_at-requires
plan_zone_at-requires c =
    let loop = c.loop-z in
    let t = zoned_alike (frame-alike loop.invariant.frame) loop.auto.words loop.auto.floats c.requires.fact in
    record {
      tables = c.requires.plannable;
      room = t.room;
      zone = omega (arith, t.few, c.loop-z-test.true);
      reverses = reverses-kept c.requires.fact_2 loop.invariant.frame;
      ready = t.each _ c.loop-z-test.true;
    }

pub loop-z-preserved : goal.loop-z-preserved
loop-z-preserved c = going_next c.loop-z.invariant c.loop-z-test.true c.plan_zone_at.ensures

pub returns : goal.returns
returns c = going_end c.loop-z.invariant c.loop-z-test.false
