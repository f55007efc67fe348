-- A byte keeps the numbers read inside the room. Assumes nothing.
use mathlib.Core.Path.{◌≡◌}
use Prim.Native.Nat.{◌≤◌}
use lib.ListN.{length}
use Rattle.vectors_text.proofs.feed.Given as goal

abbrev pub invariant-loop-b : goal.invariant-loop-b
invariant-loop-b l = (length l.numbers ≡ length l.initial.numbers) × (l.r.count ≤ length l.numbers)
