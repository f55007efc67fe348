-- Each return is a law of one link. Assumes nothing.
use native.Mathlib.Omega.{arith}
use mathlib.Core.Path.{◌∙◌, sym}
use Rattle.events.proofs.Areas.{one-added}
use Rattle.walk_links.proofs.Links.{count_less, link-old, link-open, link-locked, lock_room}
use Rattle.walk_links.proofs.LinksOf.{leads-below}
use Rattle.walk_links.proofs.walk_link.Goals as goal

pub contains-requires : goal.contains-requires
contains-requires c =
    let p = c.requires in
    (rw c.spots_at-spots.ensures (record { room = (omega (arith, p.fact.fit.words), omega (arith, p.fact.fit.words)); line = p.fact.fit.line }), leads-below p.fact.ground p.fact_2)

pub returns-then-contains : goal.returns-then-contains
returns-then-contains c = let p = c.requires in link-old _ _ _ _ p.fact_2 _ _ _ p.fact.fit (sym c.if-contains.true ∙ c.contains.ensures)

pub insert-requires : goal.insert-requires
insert-requires c =
    let p = c.requires in
    let below = leads-below p.fact.ground p.fact_2 in
    let less = count_less _ _ _ _ _ p.fact.fit below (sym c.if-contains.false ∙ c.contains.ensures) in
    record {
      count_in_bounds = omega (arith, less, p.fact.fit.words);
      a_in_bounds = omega (arith, below, p.fact.fit.words, c.spots_at-spots.ensures);
      count_bound = omega (arith, less, p.fact.fit.small);
    }

pub joined-requires : goal.joined-requires
joined-requires c =
    let p = c.requires in
    let below = leads-below p.fact.ground p.fact_2 in
    let if1 = c.if-contains in
    let contains = c.contains in
    omega (arith, count_less _ _ _ _ _ p.fact.fit below (sym if1.false ∙ contains.ensures), p.fact.fit.small)

pub returns-then-not-firelock : goal.returns-then-not-firelock
returns-then-not-firelock c =
    let p = c.requires in
    let below = leads-below p.fact.ground p.fact_2 in
    let if1 = c.if-contains in
    let contains = c.contains in
    link-open _ _ _ _ p.fact_2 _ _ _ p.fact.fit below (sym if1.false ∙ contains.ensures)
    (sym c.if-not-firelock.true ∙ c.firelock.ensures) _ _ c.joined.ensures (rw c.spots_at-spots.ensures at c.insert.ensures)

pub bounds-ids-a : goal.bounds-ids-a
bounds-ids-a c = let p = c.requires in leads-below p.fact.ground p.fact_2

pub append-requires : goal.append-requires
append-requires c =
    let p = c.requires in
    let below = leads-below p.fact.ground p.fact_2 in
    let if1 = c.if-contains in
    let contains = c.contains in
    (tt, lock_room _ _ _ _ _ p.fact.fit below (sym if1.false ∙ contains.ensures))

pub joined-requires-2 : goal.joined-requires-2
joined-requires-2 c =
    let p = c.requires in
    let below = leads-below p.fact.ground p.fact_2 in
    let if1 = c.if-contains in
    let contains = c.contains in
    omega (arith, count_less _ _ _ _ _ p.fact.fit below (sym if1.false ∙ contains.ensures), p.fact.fit.small)

pub returns : goal.returns
returns c =
    let p = c.requires in
    let below = leads-below p.fact.ground p.fact_2 in
    let if1 = c.if-contains in
    let contains = c.contains in
    let if2 = c.if-not-firelock in
    let firelock = c.firelock in
    let insert = rw c.spots_at-spots.ensures at c.insert.ensures in
    let append = c.append in
    link-locked _ _ _ _ p.fact_2 _ _ _ p.fact.fit below (sym if1.false ∙ contains.ensures)
    (sym if2.false ∙ firelock.ensures) _ _ _ _ c.joined-2.ensures insert (one-added _ append.ensures)
