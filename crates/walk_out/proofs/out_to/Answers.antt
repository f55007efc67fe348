-- The stores are a join. Assumes nothing.
use native.Mathlib.Omega.{arith}
use Rattle.events.proofs.Areas.{one-added}
use Rattle.walk_out.proofs.Joins.{count_less, target_room, does-join}
use Rattle.walk_out.proofs.out_to.Goals as goal

pub insert-requires : goal.insert-requires
insert-requires c =
    let p = c.requires in
    let less = count_less _ _ _ _ _ _ p in
    record {
      count_in_bounds = omega (arith, less, p.fit.words, c.order_at-order.ensures);
      a_in_bounds = omega (arith, p.fit.words, p.inside, c.spots_at-spots.ensures);
      count_bound = omega (arith, less, p.fit.small);
    }

pub append-used-requires : goal.append-used-requires
append-used-requires c = (tt, target_room _ _ _ _ _ _ c.requires)

pub returns : goal.returns
returns c =
    let order = c.order_at-order.ensures in
    let spots = c.spots_at-spots.ensures in
    let ways = c.ways_at-ways.ensures in
    let targets = c.targets_at-targets.ensures in
    does-join _ _ _ _ _ _ c.requires _ _ _ _ order spots ways targets _ c.insert.ensures _ _ (one-added _ c.append-used.ensures)
