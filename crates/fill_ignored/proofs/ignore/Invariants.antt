-- The loop's invariant: the rows so far gave their links back. Assumes nothing.
use Rattle.fill_ignored.proofs.Stores.{Backing}
use Rattle.fill_ignored.proofs.ignore.Given as goal

abbrev pub invariant-loop-i : goal.invariant-loop-i
invariant-loop-i l = Backing l.fn.layout.turfs l.fn.layout.links l.starts l.queued l.i l.initial.words l.words
