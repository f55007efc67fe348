-- The weights are adjusted, then two amounts stored. Assumes nothing.
use native.Mathlib.Omega.{arith}
use Rattle.plan_drain.proofs.Drains.{handed}
use Rattle.plan_drain.proofs.hand_on.Goals as goal

pub returns : goal.returns
returns c = handed _ _ _ _ _ _ _ _ _ c.requires.fit c.requires.row c.requires.to c.requires.there c.requires.back _ _ c.amount_at-from.ensures c.amount_at-to.ensures c.adjust_eq_movement.ensures
