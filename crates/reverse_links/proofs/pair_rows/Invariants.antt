-- The loop's invariant: the links of the rows before r were asked for; the last row ends with the last link. Assumes nothing.
use lib.ListN.{get_or}
use Rattle.scratch.specs.Layout.{reverse_at}
use Rattle.reverse_links.specs.Words.{But, Paired}
use Rattle.reverse_links.proofs.pair_rows.Given as goal

abbrev pub invariant-loop-r : goal.invariant-loop-r
invariant-loop-r l = But l.layout.links (reverse_at l.layout.links l.layout.links) l.initial.words l.words × Paired l.starts l.neighbours l.layout.turfs l.layout.links (get_or l.starts l.r 0) l.words
