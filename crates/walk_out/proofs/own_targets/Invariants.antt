-- A loop over the space turfs: those behind it have their places. Assumes nothing.
use Rattle.walk_out.proofs.Owns.{Owning}
use Rattle.walk_out.proofs.own_targets.Given as goal

abbrev pub invariant-loop-i : goal.invariant-loop-i
invariant-loop-i l = Owning l.ids l.spaces l.initial.words l.i l.words
