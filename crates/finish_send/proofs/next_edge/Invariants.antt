-- Every place passed over failed the test. Assumes nothing.
use Prim.Native.Nat.{ℕ, ◌≤◌, ◌<◌}
use mathlib.Core.Path.{◌≡◌}
use mathlib.Core.Bool.{false}
use Rattle.finish_send.specs.Sending.{is_marked}
use Rattle.finish_send.proofs.next_edge.Given as goal

abbrev pub invariant-loop-i : goal.invariant-loop-i
invariant-loop-i l = (j : ℕ) → l.k ≤ j → j < l.i → is_marked l.words l.floats l.zone.number l.base l.above j ≡ false
