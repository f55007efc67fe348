-- Two arrays of words and three of floats are cleared, and the others stand. Assumes nothing.
use Rattle.plan_all.proofs.Plans.{blanked_at}
use native.Mathlib.Omega.{arith}
use mathlib.Core.Path.{◌∙◌}
use Rattle.plan_all.proofs.clear_plan.Goals as goal

pub direction_at-pairs-requires : goal.direction_at-pairs-requires
direction_at-pairs-requires c = omega arith

pub fast_at-fast-requires : goal.fast_at-fast-requires
fast_at-fast-requires c =
    omega arith

pub overflow_sub-fast : goal.overflow_sub-fast
overflow_sub-fast c = omega (arith, c.direction_at-pairs.ensures, c.fast_at-fast.ensures)

pub clear_part-requires : goal.clear_part-requires
clear_part-requires c = omega (arith, c.direction_at-pairs.ensures, c.fast_at-fast.ensures, c.requires.words)

pub overflow_sub-queue : goal.overflow_sub-queue
overflow_sub-queue c = omega (arith, c.fast_at-fast.ensures, c.queue_at-queue.ensures)

pub clear_part-requires-2 : goal.clear_part-requires-2
clear_part-requires-2 c = omega (arith, c.fast_at-fast.ensures, c.queue_at-queue.ensures, c.requires.words, c.clear_part.auto)

pub clear_floats-requires : goal.clear_floats-requires
clear_floats-requires c = omega (arith, c.lifted_at.ensures, c.requires.floats)

pub returns : goal.returns
returns c = let clear-part = c.clear_part in
    let clear-part2 = c.clear_part-2 in
    let clear-floats = c.clear_floats in
    blanked_at _ _ _ c.requires c.direction_at-pairs.ensures
    c.fast_at-fast.ensures c.queue_at-queue.ensures c.lifted_at.ensures
    clear-part.ensures clear-part2.ensures clear-floats.ensures (clear-part2.auto.words ∙ clear-part.auto.words) clear-part.auto.words clear-floats.auto.floats
