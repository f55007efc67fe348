-- The lists that are left lead to the place. Assumes nothing.
use Rattle.vectors.proofs.Places.{Through}
use Rattle.vectors.proofs.table_at.Given as goal

abbrev pub invariant-loop-i : goal.invariant-loop-i
invariant-loop-i l = Through l.numbers l.k l._i l.at
