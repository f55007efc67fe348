use Rattle.finish_send.proofs.Ranges.{ran_start, ran_next}
use Rattle.finish_send.proofs.Edge.{lift_length}
use Rattle.finish_send.proofs.lift.Goals as goal

pub loop-k-init : goal.loop-k-init
loop-k-init c = ran_start _ _ _

pub loop-k-preserved : goal.loop-k-preserved
loop-k-preserved c = ran_next _ (lift_length c.args.words.now c.args.zone.number c.args.up) c.loop-k.auto.k c.loop-k.invariant c.lift_at.ensures
