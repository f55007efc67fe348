-- The numbers read stay inside the room; the pieces left fall. Assumes nothing.
use mathlib.Core.Path.{◌≡◌}
use Prim.Native.Nat.{◌≤◌}
use lib.ListN.{length}
use Rattle.vectors_text.specs.Counts.{ConsumesSome}
use Rattle.vectors_text.proofs.read.Given as goal

abbrev pub invariant-loop-left : goal.invariant-loop-left
invariant-loop-left g l = (length l.numbers ≡ length l.initial.numbers) × ((l.r.count ≤ length l.numbers) × ((4096 ≡ length l.piece) × ConsumesSome (g.R.Read.remaining l.initial.input) (g.R.Read.remaining l.input)))

abbrev pub decreases-loop-left : goal.decreases-loop-left
decreases-loop-left g l = l.left
