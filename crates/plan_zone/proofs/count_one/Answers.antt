-- By the two ways out. Assumes nothing.
use native.Mathlib.Omega.{arith}
use Rattle.rules_plan.specs.declared.Side.TheVariants.{Giving}
use Rattle.plan_zone.proofs.Counts.{picked_as}
use Rattle.plan_zone.proofs.count_one.Goals as goal

pub delta_at-requires : goal.delta_at-requires
delta_at-requires c =
    omega (arith, c.requires.row, c.requires.sizes.turfs)

pub offset_bounds-floats-delta_at : goal.offset_bounds-floats-delta_at
offset_bounds-floats-delta_at c = omega (arith, c.delta_at.ensures, c.requires.row, c.requires.sizes.turfs, c.requires.sizes.links)

pub bounds-floats-delta_at : goal.bounds-floats-delta_at
bounds-floats-delta_at c = omega (arith, c.delta_at.ensures, c.requires.room)

pub overflow_add-result : goal.overflow_add-result
overflow_add-result c = omega (arith, c.requires.count)

pub returns-then-picks : goal.returns-then-picks
returns-then-picks c = rw (picked_as Giving c.args.floats.now _ _ _ c.delta_at.ensures c.picks.ensures c.if-picks.true)

pub returns-else-picks : goal.returns-else-picks
returns-else-picks c = rw (picked_as Giving c.args.floats.now _ _ _ c.delta_at.ensures c.picks.ensures c.if-picks.false)
