-- The marks are cleared, and what stands before them stays. Assumes nothing.
use Rattle.apart.proofs.Pass.{marks-room, pass-asks, pass-tells, tells_gases}
use Rattle.reverse_links.proofs.Places.{but_cleared}
use lib.ListN.{length}
use Rattle.apart.proofs.apart.Goals as goal

pub zones_apart-requires : goal.zones_apart-requires
zones_apart-requires c =
    let starts-at = c.starts_at-first in
    let nodes-at = c.nodes_at-nodes in
    let marks-at = c.marks_at-at in
    let clear-part = c.clear_part in
    let cleared = but_cleared _ (length c.args.tables.now.immutable.now) c.args.words.now (marks-room c.requires _ _ _ starts-at.ensures nodes-at.ensures marks-at.ensures) clear-part.ensures in
    let asked = pass-asks c.requires _ _ _ starts-at.ensures nodes-at.ensures marks-at.ensures cleared.0 in record { pass_fits = asked.0; zones_laid = asked.1; by_index = cleared.1 }

pub returns : goal.returns
returns c = λ gases.
    let starts-at = c.starts_at-first in
    let nodes-at = c.nodes_at-nodes in
    let marks-at = c.marks_at-at in
    let clear-part = c.clear_part in
    let zones-apart = c.zones_apart in
    let cleared = but_cleared _ (length c.args.tables.now.immutable.now) c.args.words.now (marks-room c.requires _ _ _ starts-at.ensures nodes-at.ensures marks-at.ensures) clear-part.ensures in
    tells_gases c.args.tables.now gases (pass-tells c.requires _ _ _ starts-at.ensures nodes-at.ensures marks-at.ensures cleared.0 zones-apart.ensures)
