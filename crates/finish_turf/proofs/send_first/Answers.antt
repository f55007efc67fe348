-- The first half of a turf meets its contract. Assumes nothing.
use mathlib.Core.Path.{refl}
use Rattle.finish_turf.proofs.Turf.{quiet-sent, lifted-going, first-sent}
use Rattle.finish_turf.proofs.send_first.Goals as goal

pub returns-then-next_edge-to : goal.returns-then-next_edge-to
returns-then-next_edge-to c =
    let links-of = c.links_of-from in
    let next_edge = c.next_edge in
    let if1 = c.if-next_edge-to in
    let clear-weights = c.clear_weights in
    quiet-sent _ _ _ _ _ c.requires _ _ _ refl links-of.ensures.0 links-of.ensures.1 _ _ next_edge.ensures if1.true clear-weights.ensures

pub send_edges-requires : goal.send_edges-requires
send_edges-requires c =
    let links-of = c.links_of-from in
    lifted-going _ _ _ _ _ c.requires _ _ _ c.lifted_at-up.ensures links-of.ensures.0 links-of.ensures.1 _ c.next_edge.ensures c.if-next_edge-to.false _ c.lift.ensures

pub returns : goal.returns
returns c =
    let links-of = c.links_of-from in
    first-sent _ _ _ _ _ c.requires _ _ _ c.lifted_at-up.ensures links-of.ensures.0 links-of.ensures.1 _ c.next_edge.ensures c.if-next_edge-to.false _ c.lift.ensures _ _ c.send_edges.ensures
