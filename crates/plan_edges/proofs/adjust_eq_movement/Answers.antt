-- One alteration after the other. Assumes nothing.
use native.Mathlib.Omega.{arith}
use Rattle.plan_edges.proofs.Weights.{found-more, adjusts}
use Rattle.plan_edges.proofs.adjust_eq_movement.Goals as goal

pub lose-requires : goal.lose-requires
lose-requires c = found-more _ _ c.args.back (omega (arith, c.gain.auto.weights)) c.requires.found_2

pub returns : goal.returns
returns c = adjusts _ _ _ _ _ _ c.gain.ensures c.lose.ensures
