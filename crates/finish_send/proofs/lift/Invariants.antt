-- Each turn lifts one weight. Assumes nothing.
use Rattle.finish_send.specs.Sending.{lift_at}
use Rattle.finish_send.proofs.Ranges.{Ran}
use Rattle.finish_send.proofs.lift.Given as goal

abbrev pub invariant-loop-k : goal.invariant-loop-k
invariant-loop-k l = Ran (lift_at l.words l.zone.number l.up) l.from l.k l.initial.floats l.floats
