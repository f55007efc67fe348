-- A disabled neighbour, one that is a node already, or a new node at the end of the line. Assumes nothing.
use borrow.Author.Tests.{not-true, not-false}
use mathlib.Core.Path.{sym, ◌∙◌}
use Rattle.fill_links.proofs.Stores.{edge_none, edge-room, edge-old, edge_more}
use Rattle.fill_links.proofs.edge_to.Goals as goal

pub returns-then-not-m : goal.returns-then-not-m
returns-then-not-m c = edge_none _ _ _ _ _ _ _ _ c.requires.fit c.requires.link (not-true _ c.if-not-m.true)

pub returns-then-contains : goal.returns-then-contains
returns-then-contains c =
    let by-if1 = c.if-not-m in
    let by-places-at = c.places_at-places in
    let by-nodes-at = c.nodes_at in
    edge-old _ _ _ _ _ _ _ _ c.requires.fit c.requires.link (not-false _ by-if1.false) _ _ by-nodes-at.ensures by-places-at.ensures (sym c.if-contains.true ∙ c.contains.ensures)

pub insert-requires : goal.insert-requires
insert-requires c =
    let by-if1 = c.if-not-m in
    let by-places-at = c.places_at-places in
    let by-nodes-at = c.nodes_at in
    let whole = edge-room c.args.m _ _ _ _ _ _ _ c.requires.fit c.requires.link (not-false _ by-if1.false) _ _ by-nodes-at.ensures by-places-at.ensures c.requires.row c.requires.room (sym c.if-contains.false ∙ c.contains.ensures) in
    record {
      count_in_bounds = whole.0;
      a_in_bounds = whole.1.0;
      count_bound = whole.1.1;
    }

pub returns : goal.returns
returns c =
    let by-if1 = c.if-not-m in
    let by-places-at = c.places_at-places in
    let by-nodes-at = c.nodes_at in
    let by-contains = c.contains in
    let by-if2 = c.if-contains in
    edge_more _ _ _ _ _ _ _ _ c.requires.fit c.requires.link (not-false _ by-if1.false) _ _ by-nodes-at.ensures by-places-at.ensures c.requires.row c.requires.room (sym by-if2.false ∙ by-contains.ensures) _ c.insert.ensures
