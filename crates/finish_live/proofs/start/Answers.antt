use Rattle.finish_live.proofs.Starts.{started_none, started_next}
use Rattle.finish_zones.proofs.Words.{laid_beside}
use native.Mathlib.Omega.{arith}
use Rattle.finish_live.proofs.start.Goals as goal

pub loop-z-init : goal.loop-z-init
loop-z-init c = started_none _ _ _

pub start_zone-count-requires-clause-laid : goal.start_zone-count-requires-clause-laid
start_zone-count-requires-clause-laid c = laid_beside _ _ c.loop-z.invariant.beside _ (c.requires.zones _ c.loop-z-test.true)

pub loop-z-preserved : goal.loop-z-preserved
loop-z-preserved c =
    let zone = c.requires.zones _ c.loop-z-test.true in
    started_next _ _ _ _ _ _ c.loop-z.invariant zone.below (omega (arith, zone.within)) _ _ c.start_zone-count.ensures
