-- Each turn sets one weight. Assumes nothing.
use Rattle.finish_send.specs.Sending.{zero_at}
use Rattle.finish_send.proofs.Ranges.{Ran}
use Rattle.finish_send.proofs.clear_weights.Given as goal

abbrev pub invariant-loop-k : goal.invariant-loop-k
invariant-loop-k l = Ran (zero_at l.words l.zone.number) l.from l.k l.initial.floats l.floats
