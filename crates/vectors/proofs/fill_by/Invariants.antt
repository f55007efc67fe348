-- The cells so far are what their places say. Assumes nothing.
use Rattle.std.proofs.Common.{◌≡◌, ℕ, ◌<◌, length, slice_index_or}
use Rattle.vectors.proofs.fill_by.Given as goal

abbrev pub invariant-loop-i : goal.invariant-loop-i
invariant-loop-i g l = (length l.cells ≡ length l.initial.cells) × ((j : ℕ) (d : _) → j < l.i → goal.F-post g l.rule j (slice_index_or l.cells j d))
