-- Each turn places one space turf more. Assumes nothing.
use Rattle.walk_out.proofs.Owns.{owning_start, owns, owning_next, owning_end}
use Rattle.walk_out.proofs.own_targets.Goals as goal

pub loop-i-init : goal.loop-i-init
loop-i-init c = owning_start _ _ _ c.requires

pub own_target-requires : goal.own_target-requires
own_target-requires c = owns _ _ _ c.requires _ _ c.loop-i.invariant c.loop-i-test.true

pub loop-i-preserved : goal.loop-i-preserved
loop-i-preserved c = owning_next _ _ _ c.requires _ _ c.loop-i.invariant c.loop-i-test.true _ c.own_target.ensures

pub returns : goal.returns
returns c = owning_end _ _ _ c.requires _ _ c.loop-i.auto.i-end c.loop-i-test.false c.loop-i.invariant
