-- Each number is stored in its own place, and the others stay. Assumes nothing.
use native.Mathlib.Omega.{arith}
use lib.ListN.{length-set}
use Rattle.plan_state.proofs.Stores.{stored}
use Rattle.plan_state.proofs.store.Goals as goal

pub delta_at-requires : goal.delta_at-requires
delta_at-requires c = omega (arith, c.requires)

pub offset_bounds-floats-delta_at : goal.offset_bounds-floats-delta_at
offset_bounds-floats-delta_at c = omega (arith, c.delta_at.ensures, c.requires)

pub bounds-floats-delta_at : goal.bounds-floats-delta_at
bounds-floats-delta_at c = (omega (arith, c.delta_at.ensures, c.requires))

pub amount_at-requires : goal.amount_at-requires
amount_at-requires c = omega (arith, c.requires)

pub offset_bounds-floats-amount_at : goal.offset_bounds-floats-amount_at
offset_bounds-floats-amount_at c = omega (arith, c.amount_at.ensures, c.requires)

pub bounds-floats-amount_at : goal.bounds-floats-amount_at
bounds-floats-amount_at c = simp length-set (omega (arith, c.amount_at.ensures, c.requires))

pub direction_at-requires : goal.direction_at-requires
direction_at-requires c = omega (arith, c.requires)

pub offset_bounds-words-direction_at : goal.offset_bounds-words-direction_at
offset_bounds-words-direction_at c = omega (arith, c.direction_at.ensures, c.requires)

pub bounds-words-direction_at : goal.bounds-words-direction_at
bounds-words-direction_at c = (omega (arith, c.direction_at.ensures, c.requires))

pub fast_at-requires : goal.fast_at-requires
fast_at-requires c =
    let pre = c.requires in omega (arith, pre)

pub offset_bounds-words-fast_at : goal.offset_bounds-words-fast_at
offset_bounds-words-fast_at c = omega (arith, c.fast_at.ensures, c.requires)

pub bounds-words-fast_at : goal.bounds-words-fast_at
bounds-words-fast_at c = simp length-set (omega (arith, c.fast_at.ensures, c.requires))

pub returns : goal.returns
returns c = rw (c.delta_at.ensures, c.amount_at.ensures, c.direction_at.ensures, c.fast_at.ensures) (stored _ _ _ _ _ c.requires.row_lt_n c.requires.plan_fits _)
