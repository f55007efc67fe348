use Rattle.finish_send.proofs.Ranges.{ran_start, ran_next}
use Rattle.finish_send.proofs.Edge.{zero-length}
use Rattle.finish_send.proofs.clear_weights.Goals as goal

pub loop-k-init : goal.loop-k-init
loop-k-init c = ran_start _ _ _

pub loop-k-preserved : goal.loop-k-preserved
loop-k-preserved c = ran_next _ (zero-length c.args.words.now c.args.zone.number) c.loop-k.auto.k c.loop-k.invariant c.clear_own.ensures
