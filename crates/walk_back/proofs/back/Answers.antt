-- A turf without direction is skipped, any other goes back. Assumes nothing.
use native.Mathlib.Omega.{arith}
use Rattle.walk_back.proofs.Ways.{row_below, points, back-skip, back_on}
use Rattle.walk_back.proofs.back.Goals as goal

pub bounds-words-ways : goal.bounds-words-ways
bounds-words-ways c = let p = c.requires in omega (arith, c.ways_at-ways.ensures, row_below _ _ _ _ _ _ _ p.fit p.few p.order _ _ c.order_at-order.ensures c.ways_at-ways.ensures, p.fit.words)

pub returns-then-way-eq0 : goal.returns-then-way-eq0
returns-then-way-eq0 c =
    let p = c.requires in record { fact = back-skip _ _ _ _ _ _ _ p.fit p.few p.order _ _ c.order_at-order.ensures c.ways_at-ways.ensures _ c.if-way-eq0.true; rips_bound = omega arith }

pub back_to-requires : goal.back_to-requires
back_to-requires c = let p = c.requires in points _ _ _ _ _ _ _ p.fit p.few p.order _ _ c.order_at-order.ensures c.ways_at-ways.ensures p.ground c.if-way-eq0.false

pub returns : goal.returns
returns c =
    let back_to = c.back_to in
    let p = c.requires in
    record {
      fact = back_on _ _ _ _ _ _ _ p.fit p.few p.order _ _ c.order_at-order.ensures c.ways_at-ways.ensures _ c.if-way-eq0.false back_to.ensures.fact;
      rips_bound = omega (arith, back_to.ensures.rips_value);
    }
