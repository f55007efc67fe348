-- The weights are adjusted, then two deltas stored. Assumes nothing.
use native.Mathlib.Omega.{arith}
use Rattle.plan_fast.proofs.Moves.{moved}
use Rattle.plan_fast.proofs.fast_move.Goals as goal

pub returns : goal.returns
returns c = moved _ _ _ _ _ _ _ _ _ _ c.requires.fit c.requires.row c.requires.to c.requires.there c.requires.back c.adjust_eq_movement.ensures _ _ c.delta_at-from.ensures c.delta_at-to.ensures
