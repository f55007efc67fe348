-- The next turf is counted, and visited as the kind of walk says. Assumes nothing.
use Rattle.rules_walk.specs.declared.Kind.TheVariants.{Planet, Space}
use Rattle.walk_first.proofs.Whole.{next_row, next-stands, next-visits, next-does}
use native.Mathlib.Omega.{arith}
use Rattle.walk_first.proofs.walk_next.Goals as goal

pub overflow_cast-row : goal.overflow_cast-row
overflow_cast-row c = let p = c.requires in omega (arith, next_row _ _ _ _ p.fact.fit p.walked_lt_count, p.fact.fit.small)

pub visit_planet-requires : goal.visit_planet-requires
visit_planet-requires c = let p = c.requires in next-stands _ _ _ _ _ p.fact p.walked_lt_count _ c.counted-t.ensures

pub visit_space-requires : goal.visit_space-requires
visit_space-requires c =
    let p = c.requires in
    record {
      fact = next-stands _ _ _ _ _ p.fact p.walked_lt_count _ c.counted-t.ensures;
      fact_2 = next-visits _ _ _ _ _ p.fact p.walked_lt_count _ c.counted-t.ensures Space c.in-Space.is;
    }

pub returns-in-Planet : goal.returns-in-Planet
returns-in-Planet c =
    let p = c.requires in
    next-does _ _ _ _ p.fact.fit p.walked_lt_count _ _ Planet _ c.in-Planet.is _ c.counted-t.ensures c.visit_planet.ensures

pub returns-in-Space : goal.returns-in-Space
returns-in-Space c =
    let p = c.requires in
    next-does _ _ _ _ p.fact.fit p.walked_lt_count _ _ Space _ c.in-Space.is _ c.counted-t.ensures c.visit_space.ensures
