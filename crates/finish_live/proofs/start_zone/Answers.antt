-- The zone's size is read after a store that leaves it. Assumes nothing.
use Rattle.finish_live.proofs.Starts.{starts_none, starts-some}
use native.Mathlib.Omega.{arith}
use Rattle.finish_live.proofs.start_zone.Goals as goal

pub returns-then-size_of-eq0 : goal.returns-then-size_of-eq0
returns-then-size_of-eq0 c = starts_none _ _ _ _ _ c.requires.laid _ (omega (arith, c.turns_at.ensures)) _ c.size_of.ensures c.if-size_of-eq0.true

pub returns : goal.returns
returns c = starts-some _ _ _ _ _ c.requires.laid _ (omega (arith, c.turns_at.ensures)) _ _ c.size_of.ensures c.if-size_of-eq0.false (omega (arith, c.live_at.ensures))
