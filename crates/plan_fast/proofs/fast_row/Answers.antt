-- What is left of the links starts as all of them and ends as none. Assumes nothing.
use Rattle.basics.proofs.Loops.{run_up, run-up_end}
use Rattle.plan_state.proofs.Nodes.{onto_next, onto_end}
use Rattle.plan_fast.proofs.Moves.{fast-same}
use Rattle.plan_fast.proofs.fast_row.Goals as goal

pub loop-k-preserved : goal.loop-k-preserved
loop-k-preserved c = onto_next _ _ c.loop-k.invariant (fast-same _ _ _ _ _ _ _ _ _ _ c.fast_link.ensures) (λ o p. run_up _ _ _ _ c.loop-k-test.true)

pub returns : goal.returns
returns c = onto_end c.loop-k.invariant (λ o p. run-up_end _ _ _ _ c.loop-k-test.false)
