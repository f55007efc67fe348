-- The place behind a vector that is whole is within the numbers. Assumes nothing.
use Rattle.std.proofs.Common.{rules, ◌<◌, ◌≤◌, length, ℕ, ◌-◌}
use native.Mathlib.Omega.{arith}
use borrow.Author.Tests.{ne_eqb}
use Rattle.vectors.specs.Vectors.{onward, behind}
use Rattle.replay.proofs.run_at.Goals as goal

within : (at n l : ℕ) → 0 < n → n ≤ l - at → at < l → behind at n ≤ l
unfolding onward behind
within at n l p h q = rw (ne_eqb n 0 (λ e. omega (arith, e, p))) (omega arith)

pub slice_bounds-try_all-end : goal.slice_bounds-try_all-end
slice_bounds-try_all-end c =
    omega (arith, c.past-next.ensures.0, within c.args.at c.in_ok-v.v.next (length c.args.numbers.now) (search rules) (search rules) (search rules))
