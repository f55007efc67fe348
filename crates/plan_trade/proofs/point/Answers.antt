-- One store in each of two arrays. Assumes nothing.
use native.Mathlib.Omega.{arith}
use Rattle.plan_trade.proofs.Trades.{pointed}
use Rattle.plan_trade.proofs.point.Goals as goal

pub direction_at-requires : goal.direction_at-requires
direction_at-requires c = omega (arith, c.requires)

pub offset_bounds-words-direction_at : goal.offset_bounds-words-direction_at
offset_bounds-words-direction_at c = omega (arith, c.direction_at.ensures, c.requires)

pub bounds-words-direction_at : goal.bounds-words-direction_at
bounds-words-direction_at c = omega (arith, c.direction_at.ensures, c.requires)

pub amount_at-requires : goal.amount_at-requires
amount_at-requires c = omega (arith, c.requires)

pub offset_bounds-floats-amount_at : goal.offset_bounds-floats-amount_at
offset_bounds-floats-amount_at c = omega (arith, c.amount_at.ensures, c.requires)

pub bounds-floats-amount_at : goal.bounds-floats-amount_at
bounds-floats-amount_at c = omega (arith, c.amount_at.ensures, c.requires)

pub returns : goal.returns
returns c = rw (c.direction_at.ensures, c.amount_at.ensures) (pointed _ _ _ _ _ _ c.requires.a_lt_n c.requires.plan_fits)
