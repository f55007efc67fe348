-- A change keeps the length. Assumes nothing.
use Rattle.std.proofs.Common.{◌≡◌, length}
use Rattle.replay.proofs.try_all.Given as goal

abbrev pub invariant-loop-n : goal.invariant-loop-n
invariant-loop-n l = length l.vector ≡ length l.initial.vector
