-- Each turn writes one rip more. Assumes nothing.
use Rattle.walk_back.proofs.Ways.{rips-start, rip_fits, rips-next, rips-end}
use Rattle.walk_back.proofs.rips.Goals as goal

pub loop-j-init : goal.loop-j-init
loop-j-init c = rips-start _ _ _ _ _ _ c.requires

pub rip-at-requires : goal.rip-at-requires
rip-at-requires c = rip_fits _ _ _ _ _ _ c.requires _ c.loop-j-test.true _ _ c.loop-j.invariant

pub loop-j-preserved : goal.loop-j-preserved
loop-j-preserved c = rips-next _ _ _ _ _ _ c.requires _ c.loop-j-test.true _ _ c.loop-j.invariant _ _ c.rip-at.ensures

pub returns : goal.returns
returns c = rips-end _ _ _ _ _ _ c.requires _ c.loop-j.auto.j-end c.loop-j-test.false _ _ c.loop-j.invariant
