-- A change keeps the length. Assumes nothing.
use Rattle.std.proofs.Common.{◌≡◌, length}
use Rattle.replay.proofs.change_digits.Given as goal

abbrev pub invariant-loop-digit : goal.invariant-loop-digit
invariant-loop-digit l = length l.vector ≡ length l.initial.vector
