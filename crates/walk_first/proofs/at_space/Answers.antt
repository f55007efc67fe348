-- The turf is put at the space list's end. Assumes nothing.
use Rattle.events.proofs.Areas.{one-added}
use Rattle.walk_first.proofs.Visits.{does-open}
use native.Mathlib.Omega.{arith}
use Rattle.walk_first.proofs.at_space.Goals as goal

pub overflow_add-words : goal.overflow_add-words
overflow_add-words c = let p = c.requires in omega (arith, c.order_at.ensures, p.fact.fit.small, p.fact.fit.few, p.fact.fit.past, p.fact.fit.line.few)

pub offset_bounds-words-order_at : goal.offset_bounds-words-order_at
offset_bounds-words-order_at c = let p = c.requires in omega (arith, c.order_at.ensures, p.fact.fit.small, p.fact.fit.few, p.fact.fit.past, p.fact.fit.line.few)

pub bounds-words-order_at : goal.bounds-words-order_at
bounds-words-order_at c = let p = c.requires in omega (arith, c.order_at.ensures, p.fact.fit.words, p.fact_2.counted, p.fact.fit.past, p.fact.fit.line.few)

pub returns : goal.returns
returns c = let p = c.requires in rw c.order_at.ensures (does-open _ _ _ _ _ p.fact.fit p.fact_2 _ _ _ c.opened.ensures (one-added _ c.append.ensures))
