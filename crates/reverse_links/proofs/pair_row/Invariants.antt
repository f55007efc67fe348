-- The loop's invariant: the links of the row before k were asked for. Assumes nothing.
use Rattle.scratch.specs.Layout.{reverse_at}
use Rattle.reverse_links.specs.Words.{But, Paired}
use Rattle.reverse_links.proofs.pair_row.Given as goal

abbrev pub invariant-loop-k : goal.invariant-loop-k
invariant-loop-k l = But l.layout.links (reverse_at l.layout.links l.layout.links) l.initial.words l.words × Paired l.starts l.neighbours l.layout.turfs l.layout.links l.k l.words
