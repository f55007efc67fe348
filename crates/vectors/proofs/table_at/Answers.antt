use Rattle.vectors.proofs.Places.{through_none, through_next, through_all}
use Rattle.vectors.proofs.table_at.Goals as goal

pub loop-i-init : goal.loop-i-init
loop-i-init c = through_none _ _

pub loop-i-preserved : goal.loop-i-preserved
loop-i-preserved c = through_next _ _ _ _ _ c.loop-i-test.true c.span_at-at.ensures.0 c.loop-i.invariant

pub returns : goal.returns
returns c = through_all _ _ _ _ c.loop-i-test.false c.loop-i.invariant
