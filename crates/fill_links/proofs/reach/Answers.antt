-- The edge, the mark, and then what a new neighbour brings. Assumes nothing.
use lib.ListN.{length-set}
use Prim.Native.Nat.{ℕ, ◌+◌}
use mathlib.Core.Path.{ap, ◌∙◌}
use Rattle.fill_links.proofs.Links.{edge-asks, reach-old, discover-asks, reach-new}
use Rattle.fill_links.proofs.reach.Goals as goal

pub edge_to-t-requires : goal.edge_to-t-requires
edge_to-t-requires c =
    edge-asks c.args.m c.args.k c.args.id c.requires.walking c.requires.link_fits

pub returns-then-found-ne0 : goal.returns-then-found-ne0
returns-then-found-ne0 c =
    reach-old c.args.m c.args.k c.args.id c.requires.walking c.requires.link_fits c.edge_to-t.ensures _ (ap (λ (x : ℕ). x + c.args.m.row) c.found_at.ensures) c.if-found-ne0.true

pub discover-requires : goal.discover-requires
discover-requires c =
    let whole = discover-asks c.args.m c.args.k c.args.id c.requires.walking c.requires.link_fits c.edge_to-t.ensures _ (ap (λ (x : ℕ). x + c.args.m.row) c.found_at.ensures) c.if-found-ne0.false in
    record {
      push_fits = whole.0;
      used_in_bounds = whole.1;
    }

pub shape_of-words : goal.shape_of-words
shape_of-words c = c.discover.auto.words ∙ simp length-set c.edge_to-t.auto.words

pub returns : goal.returns
returns c =
    let by-edge-to = c.edge_to-t in
    let by-found-at = c.found_at in
    let by-if1 = c.if-found-ne0 in
    let by-discover = c.discover in
    reach-new c.args.m c.args.k c.args.id c.requires.walking c.requires.link_fits by-edge-to.ensures _ (ap (λ (x : ℕ). x + c.args.m.row) by-found-at.ensures) by-if1.false by-discover.ensures
