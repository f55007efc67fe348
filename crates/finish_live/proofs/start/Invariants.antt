-- At the loop's head the first z zones were gone through. Assumes nothing.
use Rattle.finish_live.specs.Live.{Started}
use Rattle.finish_live.proofs.start.Given as goal

abbrev pub invariant-loop-z : goal.invariant-loop-z
invariant-loop-z l = Started l.layout.turfs l.layout.links l.z l.count l.initial.words l.words
