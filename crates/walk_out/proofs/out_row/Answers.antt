-- A turf that is late is passed; any other has its part of the link list passed. Assumes nothing.
use native.Mathlib.Omega.{arith}
use Rattle.turfs.specs.Tables.{board_of}
use Rattle.turfs.proofs.Near.{part-order, part_end, part-near}
use Rattle.walk_out.proofs.Rows.{next_row, passed_fit, row-late, row_on}
use Rattle.walk_out.proofs.out_row.Goals as goal

pub returns-then-t-limit : goal.returns-then-t-limit
returns-then-t-limit c = let p = c.requires in row-late _ _ _ _ p.fact.fit p.place_lt_count _ c.order_at.ensures _ _ c.if-t-limit.true

pub links_of-from-requires : goal.links_of-from-requires
links_of-from-requires c =
    let p = c.requires in
    let r = next_row _ _ _ _ p.fact.fit p.place_lt_count _ c.order_at.ensures in
    omega (arith, r, p.fact.ground.parts.count)

pub offset_bounds-neighbours-from : goal.offset_bounds-neighbours-from
offset_bounds-neighbours-from c =
    let p = c.requires in
    let r = next_row _ _ _ _ p.fact.fit p.place_lt_count _ c.order_at.ensures in
    let l = c.links_of-from.ensures in
    omega (arith, part-order p.fact.ground.parts r l.0 l.1, part_end p.fact.ground.parts r l.0 l.1, p.fact.ground.small.links)

pub slice_bounds-near-count : goal.slice_bounds-near-count
slice_bounds-near-count c =
    let p = c.requires in
    let r = next_row _ _ _ _ p.fact.fit p.place_lt_count _ c.order_at.ensures in
    let l = c.links_of-from.ensures in
    part-order p.fact.ground.parts r l.0 l.1

pub slice_bounds-near-start : goal.slice_bounds-near-start
slice_bounds-near-start c =
    let p = c.requires in
    let r = next_row _ _ _ _ p.fact.fit p.place_lt_count _ c.order_at.ensures in
    let l = c.links_of-from.ensures in
    part-order p.fact.ground.parts r l.0 l.1

pub out_links-requires : goal.out_links-requires
out_links-requires c =
    let p = c.requires in
    let r = next_row _ _ _ _ p.fact.fit p.place_lt_count _ c.order_at.ensures in
    let l = c.links_of-from.ensures in
    record {
      fact = record { ground = p.fact.ground; fit = passed_fit _ _ _ _ p.fact.fit p.place_lt_count _ c.order_at.ensures; inside = r };
      near_value = (part-near {b = board_of c.args.tables.now 0} l.0 l.1).part;
    }

pub returns : goal.returns
returns c =
    let p = c.requires in
    row_on _ _ _ _ p.fact.fit p.place_lt_count _ c.order_at.ensures _ _ c.if-t-limit.false c.out_links.ensures
