-- What the search found is a place among the floats. Assumes nothing.
use Rattle.plan_edges.proofs.Weights.{found-at, altered}
use native.Mathlib.Omega.{arith}
use Rattle.finish_send.proofs.clear_at.Goals as goal

pub offset_bounds-floats-k : goal.offset_bounds-floats-k
offset_bounds-floats-k c = omega (arith, found-at _ c.in-Some.is c.requires)

pub bounds-floats-k : goal.bounds-floats-k
bounds-floats-k c = found-at _ c.in-Some.is c.requires

pub returns-in-Some : goal.returns-in-Some
returns-in-Some c = altered _ _ c.in-Some.is
