-- Two stores. Assumes nothing.
use native.Mathlib.Omega.{arith}
use lib.ListN.{length-set}
use mathlib.Core.Path.{refl}
use Rattle.walk_steps.proofs.Steps.{row_at}
use Rattle.walk_steps.proofs.own_target.Goals as goal

pub overflow_add-row : goal.overflow_add-row
overflow_add-row c = let p = c.requires in omega (arith, c.order_at-order.ensures, p.small, p.few)

pub offset_bounds-words-order : goal.offset_bounds-words-order
offset_bounds-words-order c = let p = c.requires in omega (arith, c.order_at-order.ensures, p.small, p.few)

pub bounds-words-order : goal.bounds-words-order
bounds-words-order c = let p = c.requires in omega (arith, c.order_at-order.ensures, p.words, p.few)

pub overflow_cast-row : goal.overflow_cast-row
overflow_cast-row c = let p = c.requires in let below = row_at _ _ _ p _ c.order_at-order.ensures in omega (arith, below, p.small)

pub overflow_add-words : goal.overflow_add-words
overflow_add-words c = let p = c.requires in let below = row_at _ _ _ p _ c.order_at-order.ensures in omega (arith, below, p.small, c.spots_at-spots.ensures)

pub offset_bounds-words-spots : goal.offset_bounds-words-spots
offset_bounds-words-spots c = let p = c.requires in let below = row_at _ _ _ p _ c.order_at-order.ensures in omega (arith, below, p.small, c.spots_at-spots.ensures)

pub bounds-words-spots : goal.bounds-words-spots
bounds-words-spots c = let p = c.requires in let below = row_at _ _ _ p _ c.order_at-order.ensures in omega (arith, below, p.words, c.spots_at-spots.ensures)

pub offset_bounds-ids-row : goal.offset_bounds-ids-row
offset_bounds-ids-row c = let p = c.requires in let below = row_at _ _ _ p _ c.order_at-order.ensures in omega (arith, below, p.small)

pub bounds-ids-row : goal.bounds-ids-row
bounds-ids-row c = let p = c.requires in let below = row_at _ _ _ p _ c.order_at-order.ensures in omega (arith, below, p.few)

pub overflow_add-words-2 : goal.overflow_add-words-2
overflow_add-words-2 c = let p = c.requires in let below = row_at _ _ _ p _ c.order_at-order.ensures in omega (arith, below, p.small, c.targets_at-targets.ensures)

pub offset_bounds-words-targets : goal.offset_bounds-words-targets
offset_bounds-words-targets c = let p = c.requires in let below = row_at _ _ _ p _ c.order_at-order.ensures in omega (arith, below, p.small, c.targets_at-targets.ensures)

pub bounds-words-targets : goal.bounds-words-targets
bounds-words-targets c = let p = c.requires in let below = row_at _ _ _ p _ c.order_at-order.ensures in simp length-set (omega (arith, below, p.words, c.targets_at-targets.ensures))

pub returns : goal.returns
returns c = rw (c.order_at-order.ensures, c.spots_at-spots.ensures, c.targets_at-targets.ensures) refl
